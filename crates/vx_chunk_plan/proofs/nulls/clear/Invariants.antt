-- The nulls so far have their zeros.
use Rattle.vx_chunk_plan.specs.Scattered.{AreNulled}
use Rattle.vx_chunk_plan.proofs.nulls.clear.Given as goal

abbrev pub invariant-loop-j : goal.invariant-loop-j
invariant-loop-j l = AreNulled l.width l.valid l.j l.initial.out l.out
