-- The valid rows so far lie where they should.
use Rattle.std.proofs.Common.{◌≡◌, ℕ, ◌<◌, ◌≤◌, true}
use Rattle.vx_arrow_image.specs.Image.{if_valid, is_list_view, part_of}
use Rattle.vx_arrow_image.proofs.fitting.are_list_views.Given as goal

abbrev pub invariant-loop-i : goal.invariant-loop-i
invariant-loop-i l = (j : ℕ) → l.start ≤ j → j < l.i → if_valid (part_of l.node) (is_list_view l.size (part_of l.node) l.count) j ≡ true
