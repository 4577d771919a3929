use Rattle.std.proofs.Common.{◌≡◌, ℕ, ◌+◌, ◌*◌, ◌<◌, List, length, get_or, true, arith}
use Rattle.std.specs.Prelude.{slice_get}
use Rattle.vortex_select.specs.MaskPositions.{ascending}
use Rattle.vortex_select.proofs.Ascends.{ascend_of, ascend_below}
use Rattle.calling.specs.Squares.{squares_below}
use Rattle.calling.proofs.SquareLists.{length-squares, put_at, square_at}
use Rattle.calling.proofs.squares.SquaresChunkDecoderArrayU88.decode_indices.Goals as goal

below : (places : List ℕ) (k : ℕ) → ascending 0 1024 places ≡ true → k < length places → get_or places k 0 < 1024
below places k h p = ascend_below 0 1024 1024 places (ascend_of 0 1024 places h) (omega arith) k 0 p

pub overflow_add-first : goal.overflow_add-first
overflow_add-first c =
    omega (arith, below c.args.indices.now c.loop-k.k c.requires.ascend (omega arith), length-squares (1024 * c.args.self.now.chunks), c.args.self.now.few)

pub square-requires : goal.square-requires
square-requires c =
    omega (arith, below c.args.indices.now c.loop-k.k c.requires.ascend (omega arith), length-squares (1024 * c.args.self.now.chunks), c.args.self.now.few)

pub loop-k-preserved : goal.loop-k-preserved
loop-k-preserved c =
    let first = 1024 * c.args.chunk_idx in
    let all = 1024 * c.args.self.now.chunks in
    let indices = c.args.indices.now in
    let k = c.loop-k.k in
    let less = below indices k c.requires.ascend (omega arith) in
    put_at (λ i. slice_get (squares_below all) (first + i)) c.loop-k.dst indices k c.square.result c.loop-k.invariant (omega arith) (omega arith)
    (square_at all (first + get_or indices k 0) c.square.result (omega (arith, less, length-squares all)) c.square.ensures)
