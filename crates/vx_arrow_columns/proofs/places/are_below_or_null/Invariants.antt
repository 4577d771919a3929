-- The picks so far are within the length.
use Rattle.std.proofs.Common.{◌≡◌, ℕ, ◌<◌, Some}
use Rattle.vx_arrow_columns.specs.Picks.{pick_at}
use Rattle.vx_arrow_columns.proofs.places.are_below_or_null.Given as goal

abbrev pub invariant-loop-k : goal.invariant-loop-k
invariant-loop-k l = (j i : ℕ) → j < l.k → pick_at l.picks.places.now l.picks.valid.now l.picks.add j ≡ Some i → i < l.len
