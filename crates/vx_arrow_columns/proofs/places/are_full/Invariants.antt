-- The picks so far are there.
use Rattle.std.proofs.Common.{◌≡◌, ℕ, ◌<◌, true}
use Rattle.vx_arrow_image.specs.Image.{is_valid}
use Rattle.vx_arrow_columns.proofs.places.are_full.Given as goal

abbrev pub invariant-loop-k : goal.invariant-loop-k
invariant-loop-k l = (j : ℕ) → j < l.k → is_valid l.picks.valid.now j ≡ true
