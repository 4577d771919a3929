-- One piece more, up to the end of its part.
use Rattle.std.proofs.Common.{◌≡◌, ◌+◌, ◌≤◌, ◌-◌, List, ◌++◌, ap, refl, sym, ◌∙◌, subst, arith, slice_index}
use Rattle.std.specs.List.{All}
use Rattle.std.proofs.lemmas.List.{append-nil}
use Rattle.std.proofs.lemmas.List.Elements.{All-push}
use Rattle.vx_cuts.specs.Runs.{IsPieceOf, piece_places, pieces_between}
use Rattle.vx_cuts.specs.declared.runs.Piece.{Piece}
use Rattle.vx_cuts.proofs.PieceLists.{first_piece, no_more, push_first}
use Rattle.vx_cuts.proofs.RunPieces.{push_piece}
use Rattle.vx_cuts.proofs.runs.push_run.Goals as goal

pub returns-clause-pieces : goal.returns-clause-pieces
returns-clause-pieces c =
    let bounds = c.args.bounds.now in
    let items = c.loop-at.pieces.items in
    sym (append-nil items) ∙ ap (λ (l : List Piece). items ++ l) (sym (no_more bounds c.loop-at.at c.args.end (omega arith))) ∙ c.loop-at.invariant.pieces

pub loop-at-preserved : goal.loop-at-preserved
loop-at-preserved c =
    let bounds = c.args.bounds.now in
    let at = c.loop-at.at in
    let part = c.part_of-part.result in
    let stop = c.min-stop.result in
    let before = c.loop-at.pieces.items in
    let piece : Piece = record { part = part; start = at - slice_index bounds part; len = stop - at } in
    let above : c.args.start ≤ c.min-stop.result = omega arith in
    let forward : c.loop-at.at ≤ c.min-stop.result = omega arith in
    let first : slice_index bounds part + (at - slice_index bounds part) ≡ at = omega arith in
    let fits : slice_index bounds part + (at - slice_index bounds part) + (stop - at) ≤ slice_index bounds (part + 1) = omega arith in
    let new : IsPieceOf bounds piece = record { part = c.part_of-part.ensures.within; within = fits } in
    record {
      above = above;
      below = omega arith;
      pieces = push_first (c.args.pieces.now.items ++ pieces_between bounds c.args.start c.args.end) before _ piece (pieces_between bounds stop c.args.end)
          (ap (λ (l : List Piece). before ++ l) (sym (first_piece bounds c.requires.bounds part at c.args.end stop c.part_of-part.ensures.within c.part_of-part.ensures.low c.part_of-part.ensures.high (omega arith) (omega arith))) ∙ c.loop-at.invariant.pieces)
          c.in_ok-push.ensures.items;
      sound = subst (All (IsPieceOf bounds)) (sym c.in_ok-push.ensures.items) (All-push (IsPieceOf bounds) before piece c.loop-at.invariant.sound new);
      places = ap (piece_places bounds) c.in_ok-push.ensures.items
          ∙ push_piece bounds before (piece_places bounds c.args.pieces.now.items) part (at - slice_index bounds part) (stop - at) c.args.start at stop c.loop-at.invariant.places first refl c.loop-at.invariant.above forward;
    }
