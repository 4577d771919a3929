-- The picks so far lie in the chunk.
use Rattle.std.proofs.Common.{◌≡◌, ℕ, ◌-◌, ◌/◌, ◌<◌, ◌≤◌, get_or, length}
use Rattle.vx_chunk_plan.proofs.walking.next_run.Given as goal

abbrev pub invariant-loop-end : goal.invariant-loop-end
invariant-loop-end l = record {
  some : l.from < l.end;
  within : l.end ≤ length l.places;
  lie : (j : ℕ) → l.from ≤ j → j < l.end → get_or l.places j 0 / l.chunk_len ≡ l.chunk;
}

abbrev pub decreases-loop-end : goal.decreases-loop-end
decreases-loop-end l = length l.places - l.end
