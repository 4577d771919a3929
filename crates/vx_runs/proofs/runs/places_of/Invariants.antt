-- The places of the runs so far.
use Rattle.std.proofs.Common.{◌≡◌, take}
use Rattle.vx_runs.specs.Runs.{run_places}
use Rattle.vx_runs.proofs.runs.places_of.Given as goal

abbrev pub invariant-loop-k : goal.invariant-loop-k
invariant-loop-k l = l.places.items ≡ run_places (take l.k l.runs)
