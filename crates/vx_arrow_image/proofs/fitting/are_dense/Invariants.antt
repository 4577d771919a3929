-- The rows so far are in their children.
use Rattle.std.proofs.Common.{◌≡◌, ℕ, ◌<◌, ◌≤◌, true}
use Rattle.vx_arrow_image.specs.Image.{is_dense, part_of}
use Rattle.vx_arrow_image.proofs.fitting.are_dense.Given as goal

abbrev pub invariant-loop-i : goal.invariant-loop-i
invariant-loop-i l = (j : ℕ) → l.start ≤ j → j < l.i → is_dense (part_of l.node) l.lens j ≡ true
