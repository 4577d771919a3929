use Rattle.std.proofs.Common.{◌≡◌, ◌+◌, ◌*◌, take, map, Some}
use Rattle.std.specs.Prelude.{slice_get}
use Rattle.calling.specs.Squares.{squares_below}
use Rattle.calling.proofs.squares.SquaresChunkDecoderArrayU88.decode_indices.Given as goal

abbrev pub invariant-loop-k : goal.invariant-loop-k
invariant-loop-k l =
    map Some (take l.k l.dst)
    ≡ map (λ i. slice_get (squares_below (1024 * l.self.chunks)) (1024 * l.chunk_idx + i)) (take l.k l.indices)
