use Rattle.std.proofs.Common.{◌≡◌, ◌+◌, ◌*◌, map, sym, ap, ◌∙◌, arith}
use Rattle.std.specs.List.{range_with_len}
use Rattle.std.proofs.lemmas.List.{take_all}
use Rattle.calling.specs.Squares.{square}
use Rattle.calling.proofs.SquareLists.{length-squares, put_square, squares_part}
use Rattle.calling.proofs.squares.SquaresChunkDecoderArrayU88.decode_chunk.Goals as goal

pub loop-i-preserved : goal.loop-i-preserved
loop-i-preserved c =
    put_square (λ k. square (1024 * c.args.chunk_idx + k)) c.loop-i.dst c.loop-i.i c.square.result c.loop-i.invariant (omega arith) c.square.ensures

pub returns-clause-value : goal.returns-clause-value
returns-clause-value c =
    let first = 1024 * c.args.chunk_idx in
    let all = 1024 * c.args.self.now.chunks in
    let end : c.loop-i.i ≡ 1024 = omega arith in
    sym (take_all c.loop-i.i c.loop-i.dst (omega arith)) ∙ c.loop-i.invariant
    ∙ ap (λ m. map (λ k. square (first + k)) (range_with_len 0 m)) end
    ∙ sym (squares_part all first 1024 (omega (arith, length-squares all)))
