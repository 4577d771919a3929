-- The lowest bit of the word that is moved down is bit k.
use Rattle.std.proofs.Common.{eqb, false, ap, sym, ◌∙◌}
use Rattle.std.proofs.lemmas.Nat.Bits.{shr_and_one}
use Rattle.vx_bits.proofs.WordBits.{get_or-word_bits}
use Rattle.vx_print.proofs.records.is_there.Goals as goal

pub returns : goal.returns
returns c =
    ap (λ x. eqb x 1) (shr_and_one c.args.word c.args.k) ∙ sym (get_or-word_bits c.args.word 64 c.args.k false c.requires)
