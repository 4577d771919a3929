use Rattle.std.proofs.Common.{below_more, arith}
use Rattle.std.proofs.lemmas.Nat.{le_or_l, le_or_r}
use Rattle.vx_words.proofs.take.are_below.Goals as goal

pub loop-index-preserved : goal.loop-index-preserved
loop-index-preserved c = λ h.
    let sign = c.sign_of-signs.result in
    let before = c.loop-index.signs in
    below_more _ _ (c.loop-index.invariant (omega (arith, le_or_l before sign, h))) (c.sign_of-signs.ensures (omega (arith, le_or_r before sign, h)))
