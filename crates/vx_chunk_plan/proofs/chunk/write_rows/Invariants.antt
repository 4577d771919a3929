-- The rows so far are written.
use Rattle.vx_chunk_plan.specs.Scattered.{AreScattered}
use Rattle.vx_chunk_plan.proofs.chunk.write_rows.Given as goal

abbrev pub invariant-loop-i : goal.invariant-loop-i
invariant-loop-i g l = AreScattered g.row.W l.first l.chunk l.places l.order l.i l.initial.out l.out
