-- Piece i has row i of each of the three columns.
use Rattle.std.proofs.Common.{length, get_or, sym, ap, ◌∙◌, arith}
use Rattle.vx_model.specs.Column.{Column}
use Rattle.vx_pieces.specs.Pieces.{PiecesParts, pieces_fault, is_unsigned_type, naturals_of}
use Rattle.vx_pieces.proofs.Naturals.{aligned, get_or-pieces_of, length-pieces_of, row_of_piece}
use Rattle.vx_pieces.proofs.sequence.PiecewiseSequence.piece.Goals as goal

pub natural_at-requires-clause-row : goal.natural_at-requires-clause-row
natural_at-requires-clause-row c =
    omega (arith, (row_of_piece _ c.args.self.now c.args.i c.self.view_is c.self.invariant c.requires).starts, ap (λ (d : Column). length d.rows) c.deref.ensures)

pub natural_at-requires-2-clause-row : goal.natural_at-requires-2-clause-row
natural_at-requires-2-clause-row c =
    omega (arith, (row_of_piece _ c.args.self.now c.args.i c.self.view_is c.self.invariant c.requires).lengths, ap (λ (d : Column). length d.rows) c.deref-2.ensures)

pub natural_at-requires-3-clause-unsigned : goal.natural_at-requires-3-clause-unsigned
natural_at-requires-3-clause-unsigned c =
    let v = c.self.view_is in let p = c.args.self.now in let sound = sym (ap pieces_fault v) ∙ c.self.invariant in
    ap (λ (d : Column). is_unsigned_type d.dtype) (c.deref-3.ensures ∙ ap (λ (p : PiecesParts). p.multipliers) v) ∙ (aligned p sound).multipliers

pub natural_at-requires-3-clause-row : goal.natural_at-requires-3-clause-row
natural_at-requires-3-clause-row c =
    omega (arith, (row_of_piece _ c.args.self.now c.args.i c.self.view_is c.self.invariant c.requires).multipliers, ap (λ (d : Column). length d.rows) c.deref-3.ensures)

pub returns : goal.returns
returns c =
    let v = c.self.view_is in let p = c.args.self.now in let sound = sym (ap pieces_fault v) ∙ c.self.invariant in
    let at = get_or-pieces_of p sound c.args.i _ (omega (arith, length-pieces_of p sound, c.requires)) in
    let s = c.natural_at.ensures ∙ ap (λ (d : Column). get_or (naturals_of d) c.args.i 0) (c.deref.ensures ∙ ap (λ (p : PiecesParts). p.starts) v) in
    let l = c.natural_at-2.ensures ∙ ap (λ (d : Column). get_or (naturals_of d) c.args.i 0) (c.deref-2.ensures ∙ ap (λ (p : PiecesParts). p.lengths) v) in
    let m = c.natural_at-3.ensures ∙ ap (λ (d : Column). get_or (naturals_of d) c.args.i 0) (c.deref-3.ensures ∙ ap (λ (p : PiecesParts). p.multipliers) v) in
    rw (s, l, m) (sym at)
