-- The constructor's answer.
use Rattle.std.proofs.Common.{sym, ◌∙◌}
use Rattle.vx_pieces.specs.Indices.{by_pieces}
use Rattle.vx_json.proofs.Made.{made, refused}
use Rattle.vx_document.specs.Pieces.{pieces_made}
use Rattle.vx_document.proofs.pieces.pieces_made.Goals as goal

pub returns-in-Ok : goal.returns-in-Ok
unfolding pieces_made
returns-in-Ok c =
    made by_pieces _ _ _ (sym c.try_new.ensures ∙ c.in-Ok.is)

pub returns-in-Err : goal.returns-in-Err
unfolding pieces_made
returns-in-Err c =
    refused by_pieces _ _ _ (sym c.try_new.ensures ∙ c.in-Err.is)
