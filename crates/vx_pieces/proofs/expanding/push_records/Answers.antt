-- One record more is put out.
use Rattle.std.proofs.Common.{◌++◌, [], ◌∷◌, map, sym, ap, ◌∙◌, append_assoc}
use Rattle.std.specs.Int.{w64, to_le_bytes}
use Rattle.std.specs.List.{range_with_len}
use Rattle.vx_pieces.specs.Pieces.{piece_number}
use Rattle.vx_pieces.proofs.PieceNumbers.{front_number}
use Rattle.vx_pieces.proofs.expanding.push_records.Goals as goal

pub loop-j-preserved : goal.loop-j-preserved
loop-j-preserved c =
    let front = map (to_le_bytes w64) (map (piece_number c.args.piece) (range_with_len 0 c.loop-j.j)) in
    c.in_ok-push.ensures.items ∙ ap (λ l. l ++ c.to_le_bytes.result ∷ []) c.loop-j.invariant ∙ append_assoc c.args.records.now.items front (c.to_le_bytes.result ∷ [])
    ∙ ap (λ l. c.args.records.now.items ++ l)
    (ap (λ b. front ++ b ∷ []) (c.to_le_bytes.ensures ∙ ap (to_le_bytes w64) c.index.ensures) ∙ sym (front_number (to_le_bytes w64) c.args.piece c.loop-j.j))
