use Rattle.std.proofs.Common.{◌-◌, bit_and, ap, ◌∙◌}
use Rattle.std.proofs.lemmas.Nat.{and_mask, one_shl}
use Rattle.vx_words.proofs.bits.front.Goals as goal

pub returns : goal.returns
returns c =
    ap (λ m. bit_and c.args.word (m - 1)) (one_shl c.args.count 64 c.requires) ∙ and_mask c.args.word c.args.count
