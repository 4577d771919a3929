-- The rows that are wanted past those so far.
use Rattle.std.proofs.Common.{◌≡◌, ◌-◌, take}
use Rattle.std.specs.List.{sum}
use Rattle.vx_cuts.proofs.slices.reaches.Given as goal

abbrev pub invariant-loop-n : goal.invariant-loop-n
invariant-loop-n l = l.left ≡ l.end - sum (take l.n-index l.lengths)
