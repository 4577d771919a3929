use Rattle.std.proofs.Common.{◌≡◌, take, map, Some}
use Rattle.std.specs.Prelude.{slice_get}
use Rattle.vx_decoder.proofs.places.copy_places.Given as goal

abbrev pub invariant-loop-k : goal.invariant-loop-k
invariant-loop-k g l = map Some (take l.k l.dst) ≡ map (slice_get l.values) (take l.k l.places)
