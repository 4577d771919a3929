use Rattle.std.proofs.Common.{◌≡◌, ◌/◌, ◌%◌, ◌^◌, eqb, get_or, bit_and, sym, ap, ◌∙◌}
use Rattle.std.proofs.lemmas.Nat.{and_mask}
use Rattle.vx_words.proofs.TakenItems.{there_bit}
use Rattle.vx_words.proofs.take.is_set.Goals as goal

pub returns : goal.returns
returns c =
    let shifted = get_or c.args.words.now (c.args.k / 64) 0 / 2 ^ (c.args.k % 64) in
    let lowest : bit_and shifted 1 ≡ shifted % 2 = and_mask shifted 1 in
    ap (λ b. eqb b 1) lowest ∙ sym (there_bit c.args.words.now c.args.k c.requires)
