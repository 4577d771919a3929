-- The rows so far follow, and the highest offset of each child is kept.
use Rattle.std.proofs.Common.{◌≡◌, ℕ, ◌<◌, ◌≤◌, List, true}
use Rattle.vx_arrow_image.specs.Image.{Part, part_of}
use Rattle.vx_arrow_strict.specs.Dense.{follows}
use Rattle.vx_arrow_strict.proofs.Order.{AreHighest}
use Rattle.vx_arrow_strict.proofs.dense.all_follow.Given as goal

pub record AllFollow (p : Part) (last : List ℕ) (i : ℕ) : Type 0 where
  pub highest : AreHighest p last i
  pub follow : (j : ℕ) → p.offset ≤ j → j < i → follows p j ≡ true

abbrev pub invariant-loop-i : goal.invariant-loop-i
invariant-loop-i l = AllFollow (part_of l.node) l.last l.i
