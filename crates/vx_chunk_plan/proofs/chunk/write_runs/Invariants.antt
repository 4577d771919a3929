-- The rows so far are written.
use Rattle.std.proofs.Common.{◌-◌, ◌≤◌, length}
use Rattle.vx_chunk_plan.specs.Scattered.{AreScattered}
use Rattle.vx_chunk_plan.proofs.chunk.write_runs.Given as goal

abbrev pub invariant-loop-i : goal.invariant-loop-i
invariant-loop-i l = record {
  within : l.i ≤ length l.order;
  so : AreScattered l.width l.span.first l.chunk l.places l.order l.i l.initial.out l.out;
}

abbrev pub decreases-loop-i : goal.decreases-loop-i
decreases-loop-i l = length l.order - l.i
