-- The number is in the piece at hand, or behind it.
use Rattle.std.proofs.Common.{rules, ◌+◌, Some, drop, sym, ap, ◌∙◌}
use Rattle.std.specs.Prelude.{slice_get}
use Rattle.std.specs.List.{flat_map}
use Rattle.vx_pieces.specs.Pieces.{piece_numbers, pieces_of, scalar_of}
use Rattle.vx_pieces.proofs.PieceLists.{numbers_rest}
use Rattle.vx_pieces.proofs.PieceNumbers.{number_at, number_behind}
use Rattle.vx_pieces.proofs.sequence.PiecewiseSequence.scalar_at.Goals as goal

pub returns-then-left-piece : goal.returns-then-left-piece
returns-then-left-piece c =
    let ps = pieces_of c.args.self.now in let q = c.piece-piece.result in let i = c.loop-i.i in
    c.fitting.ensures ∙ ap (λ x. scalar_of (Some x)) c.number.ensures
    ∙ sym (ap scalar_of (c.loop-i.invariant ∙ ap (λ l. slice_get l c.loop-i.left) (numbers_rest ps i q (search rules) c.piece-piece.ensures)
    ∙ number_at q c.loop-i.left (flat_map piece_numbers (drop (i + 1) ps)) c.if-left-piece.true))

pub loop-i-preserved : goal.loop-i-preserved
loop-i-preserved c =
    let ps = pieces_of c.args.self.now in let q = c.piece-piece.result in let i = c.loop-i.i in
    c.loop-i.invariant ∙ ap (λ l. slice_get l c.loop-i.left) (numbers_rest ps i q (search rules) c.piece-piece.ensures)
    ∙ number_behind q c.loop-i.left (flat_map piece_numbers (drop (i + 1) ps)) c.if-left-piece.false
