-- The picks so far follow one another.
use Rattle.vx_chunk_plan.specs.Scattered.{AreFollowing}
use Rattle.vx_chunk_plan.proofs.chunk.follow.Given as goal

abbrev pub invariant-loop-n : goal.invariant-loop-n
invariant-loop-n l = AreFollowing l.places l.order l.i l.n
