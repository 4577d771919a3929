-- No pick so far is past the rows.
use Rattle.std.proofs.Common.{◌≡◌, ℕ, ◌<◌, false}
use Rattle.vx_chunk_plan.specs.Faults.{is_beyond}
use Rattle.vx_chunk_plan.specs.Picks.{pick_at}
use Rattle.vx_chunk_plan.proofs.picks.first_beyond.Given as goal

abbrev pub invariant-loop-j : goal.invariant-loop-j
invariant-loop-j l = (k : ℕ) → k < l.j → is_beyond l.len (pick_at l.places l.valid k) ≡ false
