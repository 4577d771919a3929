-- The multipliers are the constant's column.
use Rattle.std.proofs.Common.{length, sym, ap, ◌∙◌}
use Rattle.vx_model.specs.Column.{Column}
use Rattle.vx_pieces.specs.Pieces.{PiecesParts, pieces_fault, is_unsigned_type}
use Rattle.vx_pieces.proofs.Naturals.{aligned}
use Rattle.vx_pieces.proofs.RunLists.{constant_ones}
use Rattle.vx_pieces.proofs.sequence.PiecewiseSequence.is_constant_one.Goals as goal

-- the multipliers are the constant's column
pub is_one-requires : goal.is_one-requires
is_one-requires c =
    let v = c.self.view_is in let p = c.args.self.now in let sound = sym (ap pieces_fault v) ∙ c.self.invariant in
    let same = c.in-Some.ensures.value ∙ c.deref.ensures ∙ ap (λ (p : PiecesParts). p.multipliers) v in
    ap (λ (d : Column). is_unsigned_type d.dtype) same ∙ (aligned p sound).multipliers

pub returns-in-Some-clause-ones : goal.returns-in-Some-clause-ones
returns-in-Some-clause-ones c = λ one.
    let v = c.self.view_is in let p = c.args.self.now in let sound = sym (ap pieces_fault v) ∙ c.self.invariant in
    let same = c.in-Some.ensures.value ∙ c.deref.ensures ∙ ap (λ (p : PiecesParts). p.multipliers) v in
    constant_ones p (record { scalar = c.in-Some.scalar.now; len = length c.deref.result.now.rows }) sound same (sym c.is_one.ensures ∙ one)
