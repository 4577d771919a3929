use Rattle.std.proofs.Common.{refl, arith}
use Rattle.vx_words.proofs.take.first_past.Goals as goal

pub returns-then-are_below : goal.returns-then-are_below
returns-then-are_below c = λ k p. omega (arith, c.if-are_below.ensures refl k p.within, p.past)
