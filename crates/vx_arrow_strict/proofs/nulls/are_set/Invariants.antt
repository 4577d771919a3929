-- The bits so far are set.
use Rattle.std.proofs.Common.{◌≡◌, ℕ, ◌<◌, ◌≤◌, true}
use Rattle.vx_arrow_image.specs.Image.{is_valid}
use Rattle.vx_arrow_strict.proofs.nulls.are_set.Given as goal

abbrev pub invariant-loop-i : goal.invariant-loop-i
invariant-loop-i l = (j : ℕ) → l.start ≤ j → j < l.i → is_valid l.valid j ≡ true
