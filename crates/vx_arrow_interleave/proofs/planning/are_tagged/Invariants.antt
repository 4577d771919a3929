-- The rows so far have the id of a child.
use Rattle.std.proofs.Common.{◌≡◌, ℕ, ◌<◌, ◌≤◌, true}
use Rattle.vx_arrow_image.specs.Image.{has_child, part_of}
use Rattle.vx_arrow_interleave.proofs.planning.are_tagged.Given as goal

abbrev pub invariant-loop-i : goal.invariant-loop-i
invariant-loop-i l = (j : ℕ) → l.start ≤ j → j < l.i → has_child (part_of l.node) j ≡ true
