-- Each number so far is one of a pick in the chunk.
use Rattle.std.proofs.Common.{◌≡◌, ℕ, ◌<◌, get_or, true}
use Rattle.vx_chunk_plan.specs.Faults.{is_among}
use Rattle.vx_chunk_plan.proofs.chunk.first_stray.Given as goal

abbrev pub invariant-loop-i : goal.invariant-loop-i
invariant-loop-i l = (k : ℕ) → k < l.i → is_among l.places l.span.first l.span.rows (get_or l.order k 0) ≡ true
