-- The rows so far lie where they should.
use Rattle.std.proofs.Common.{◌≡◌, ℕ, ◌<◌, ◌≤◌, true}
use Rattle.vx_arrow_image.specs.Image.{is_list_view, part_of}
use Rattle.vx_arrow_strict.proofs.lists.all_lists.Given as goal

abbrev pub invariant-loop-i : goal.invariant-loop-i
invariant-loop-i l = (j : ℕ) → l.start ≤ j → j < l.i → is_list_view l.size (part_of l.node) l.count j ≡ true
