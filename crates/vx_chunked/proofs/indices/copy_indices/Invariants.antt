use Rattle.std.proofs.Common.{◌≡◌, take, map, Some}
use Rattle.std.specs.Prelude.{slice_get}
use Rattle.vx_chunked.specs.Positions.{places_of}
use Rattle.vx_chunked.proofs.indices.copy_indices.Given as goal

abbrev pub invariant-loop-k : goal.invariant-loop-k
invariant-loop-k g l = map Some (take l.k l.dst) ≡ map (slice_get l.values) (places_of l.offset l.base (take l.k l.indices))
