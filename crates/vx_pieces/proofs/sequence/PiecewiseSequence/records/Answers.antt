-- The records of one piece more.
use Rattle.std.proofs.Common.{rules, ◌++◌, map, take, sym, ap, ◌∙◌, arith}
use Rattle.std.specs.Int.{w64, to_le_bytes}
use Rattle.std.specs.List.{flat_map}
use Rattle.std.proofs.lemmas.List.{map-append, take_all}
use Rattle.vx_pieces.specs.Pieces.{piece_numbers, pieces_of}
use Rattle.vx_pieces.proofs.PieceLists.{numbers_more}
use Rattle.vx_pieces.proofs.sequence.PiecewiseSequence.records.Goals as goal

pub loop-i-preserved : goal.loop-i-preserved
loop-i-preserved c =
    let ps = pieces_of c.args.self.now in let q = c.piece.result in let f = to_le_bytes w64 in
    c.in_ok-push_records.ensures
    ∙ ap (λ l. l ++ map f (piece_numbers q)) c.loop-i.invariant
    ∙ sym (map-append f (flat_map piece_numbers (take c.loop-i.i ps)) (piece_numbers q))
    ∙ ap (map f) (sym (numbers_more ps c.loop-i.i q (search rules) c.piece.ensures))

pub returns : goal.returns
returns c =
    let ps = pieces_of c.args.self.now in
    c.loop-i.invariant ∙ ap (λ l. map (to_le_bytes w64) (flat_map piece_numbers l)) (take_all c.loop-i.i ps (omega (arith, c.count-i-end.ensures)))
