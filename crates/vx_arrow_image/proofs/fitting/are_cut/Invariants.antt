-- The rows so far are cut as they should be.
use Rattle.std.proofs.Common.{◌≡◌, ℕ, ◌<◌, ◌≤◌, true}
use Rattle.vx_arrow_image.specs.Image.{is_cut, part_of}
use Rattle.vx_arrow_image.proofs.fitting.are_cut.Given as goal

abbrev pub invariant-loop-i : goal.invariant-loop-i
invariant-loop-i l = (j : ℕ) → l.start ≤ j → j < l.i → is_cut l.size (part_of l.node) l.count j ≡ true
