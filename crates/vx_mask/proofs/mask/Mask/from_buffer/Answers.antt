use Rattle.std.proofs.Common.{ap, replicate, sym, ◌∙◌, false, true}
use Rattle.vx_mask.proofs.PositionLists.{all_are_set}
use Rattle.vx_mask.proofs.mask.Mask.from_buffer.Goals as goal
use Rattle.vx_bits.proofs.WordLists.{no_bits}

pub returns-then-count-eq0-clause-bits : goal.returns-then-count-eq0-clause-bits
returns-then-count-eq0-clause-bits c =
    ap (λ n. replicate n false) c.len-len.ensures ∙ sym (no_bits c.args.bits.bits (sym c.true_count-count.ensures ∙ c.if-count-eq0.true))

pub returns-then-count-len-clause-bits : goal.returns-then-count-len-clause-bits
returns-then-count-len-clause-bits c =
    ap (λ n. replicate n true) c.len-len.ensures ∙ sym (all_are_set c.args.bits.bits (sym c.true_count-count.ensures ∙ c.if-count-len.true ∙ c.len-len.ensures))
