-- The constructor's answer.
use Rattle.std.proofs.Common.{sym, ◌∙◌}
use Rattle.vx_json.proofs.Made.{made, refused}
use Rattle.vx_document.specs.Columns.{flat_of}
use Rattle.vx_document.proofs.columns.flat_of.Goals as goal

pub returns-in-Ok : goal.returns-in-Ok
unfolding flat_of
returns-in-Ok c =
    let is = rw c.in_ok-into_ref.ensures at c.try_new.ensures in
    made (λ c. c) _ _ _ (sym is ∙ c.in-Ok.is)

pub returns-in-Err : goal.returns-in-Err
unfolding flat_of
returns-in-Err c =
    let is = rw c.in_ok-into_ref.ensures at c.try_new.ensures in
    refused (λ c. c) _ _ _ (sym is ∙ c.in-Err.is)
