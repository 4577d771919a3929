use Rattle.std.proofs.Common.{◌≡◌, take}
use Rattle.vx_chunked.specs.Positions.{places_of}
use Rattle.vx_chunked.proofs.indices.put_indices.Given as goal

abbrev pub invariant-loop-k : goal.invariant-loop-k
invariant-loop-k l = take l.k l.places ≡ places_of l.offset l.base (take l.k l.indices)
