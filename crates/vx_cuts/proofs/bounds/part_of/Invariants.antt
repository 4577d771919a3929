-- The position lies between the two bounds.
use Rattle.std.proofs.Common.{◌-◌, ◌<◌, ◌≤◌, length, slice_index}
use Rattle.vx_cuts.proofs.bounds.part_of.Given as goal

abbrev pub invariant-loop-low : goal.invariant-loop-low
invariant-loop-low l = record {
  ordered : l.low < l.high;
  within : l.high < length l.bounds;
  above : slice_index l.bounds l.low ≤ l.position;
  below : l.position < slice_index l.bounds l.high;
}

abbrev pub decreases-loop-low : goal.decreases-loop-low
decreases-loop-low l = l.high - l.low
