use Rattle.std.proofs.Common.{◌≡◌, ◌-◌, ◌<◌, ◌≤◌, ◌++◌, length, drop, get_or, true, false}
use Rattle.vx_mask.specs.Positions.{runs_from, maximal_runs}
use Rattle.vx_mask.proofs.runs.runs_of.Given as goal

abbrev pub invariant-runs : goal.invariant-runs
invariant-runs l = record {
  found : l.runs.items ++ runs_from l.start (drop l.start l.bits.bits) ≡ maximal_runs l.bits.bits;
  within : l.start ≤ length l.bits.bits;
  set : l.start < length l.bits.bits → get_or l.bits.bits l.start false ≡ true;
}

abbrev pub decreases-runs : goal.decreases-runs
decreases-runs l = l.len - l.start
