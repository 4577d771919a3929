-- The word that holds the bit, moved down.
use Rattle.std.proofs.Common.{◌≡◌, ◌+◌, ◌/◌, ◌%◌, ◌^◌, eqb, get_or, bit_and, refl, ap, ◌∙◌, arith}
use Rattle.std.proofs.lemmas.Bool.Decides.{nat_tests}
use Rattle.std.proofs.lemmas.Nat.{and_mask}
use Rattle.vx_words.proofs.BitWords.{bit_there}
use Rattle.vx_cuts.proofs.bits.bit_at.Goals as goal

pub returns : goal.returns
returns c =
    let list = c.args.list.now in
    let place = c.args.list.now.at + c.args.row in
    let shifted = get_or c.args.list.now.words.now (place / 64) 0 / 2 ^ (place % 64) in
    let lowest : bit_and shifted 1 ≡ shifted % 2 = and_mask shifted 1 in
    ap (λ b. eqb b 1) lowest ∙ bit_there c.args.list.now.words.now c.args.list.now.at c.args.list.now.len c.args.row place (grind (arith, nat_tests)) c.requires.within refl
