use Rattle.std.proofs.Common.{◌≡◌, ◌+◌, ◌-◌, ◌/◌, ◌^◌, ap, ◌∙◌, arith}
use Rattle.std.proofs.lemmas.Nat.{shr-shr}
use Rattle.vx_words.proofs.bits.past_word.Goals as goal

pub returns : goal.returns
returns c =
    let all : 1 + (63 - c.args.held) ≡ 64 - c.args.held = omega (arith, c.requires) in
    shr-shr c.args.more 1 (63 - c.args.held) ∙ ap (λ n. c.args.more / 2 ^ n) all
