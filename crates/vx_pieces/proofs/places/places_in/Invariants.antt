use Rattle.std.proofs.Common.{◌≡◌, take}
use Rattle.vx_take.specs.Picks.{run_places}
use Rattle.vx_pieces.proofs.places.places_in.Given as goal

abbrev pub invariant-loop-run : goal.invariant-loop-run
invariant-loop-run l = l.places.items ≡ run_places (take l.run-index l.runs)
