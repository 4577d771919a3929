use Rattle.std.proofs.Common.{◌≤◌, length, take}
use Rattle.vx_mask.proofs.AgreeingLists.{AreRunsTo}
use Rattle.vx_mask.proofs.agreement.are_set_runs.Given as goal

abbrev pub invariant-loop-run : goal.invariant-loop-run
invariant-loop-run l = record {
  found : AreRunsTo l.bits.bits (take l.run-index l.slices) l.low;
  within : l.low ≤ length l.bits.bits;
}
