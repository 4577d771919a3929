-- There is a piece for each row of the starts.
use Rattle.std.proofs.Common.{length, sym, ap, ◌∙◌}
use Rattle.vx_pieces.specs.Pieces.{PiecesParts, pieces_fault}
use Rattle.vx_pieces.proofs.Naturals.{length-pieces_of}
use Rattle.vx_pieces.proofs.sequence.PiecewiseSequence.count.Goals as goal

pub returns : goal.returns
returns c =
    let v = c.self.view_is in
    c.len.ensures ∙ ap (λ d. length d.rows) c.deref.ensures ∙ ap (λ (p : PiecesParts). length p.starts.rows) v ∙ sym (length-pieces_of c.args.self.now (sym (ap pieces_fault v) ∙ c.self.invariant))
