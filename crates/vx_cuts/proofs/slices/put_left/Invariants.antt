-- The parts so far.
use Rattle.std.proofs.Common.{◌≡◌, ℕ, ◌<◌, get_or}
use Rattle.vx_cuts.specs.Slices.{left_in}
use Rattle.vx_cuts.proofs.slices.put_left.Given as goal

abbrev pub invariant-loop-k : goal.invariant-loop-k
invariant-loop-k l = (j : ℕ) → j < l.k → get_or l.left j 0 ≡ left_in l.starts l.ends j
