use Rattle.std.proofs.Common.{◌≡◌, ◌+◌, ◌*◌, take, map}
use Rattle.std.specs.List.{range_with_len}
use Rattle.calling.specs.Squares.{square}
use Rattle.calling.proofs.squares.SquaresChunkDecoderArrayU88.decode_chunk.Given as goal

abbrev pub invariant-loop-i : goal.invariant-loop-i
invariant-loop-i l = take l.i l.dst ≡ map (λ k. square (1024 * l.chunk_idx + k)) (range_with_len 0 l.i)
