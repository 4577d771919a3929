-- The places so far are below the end, or nulls.
use Rattle.std.proofs.Common.{ℕ, ◌<◌, slice_index}
use Rattle.vx_take.specs.Picks.{IsPlace}
use Rattle.vx_cuts.proofs.picks.first_beyond.Given as goal

abbrev pub invariant-loop-k : goal.invariant-loop-k
invariant-loop-k l = (j : ℕ) → j < l.k → IsPlace (slice_index l.places j) l.end
