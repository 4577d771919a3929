-- The constructor's answer.
use Rattle.std.proofs.Common.{sym, refl}
use Rattle.vx_model.specs.List.{ListParts, list_fault}
use Rattle.vx_column_json.proofs.Refusals.{made_by, refused_by}
use Rattle.vx_column_json.proofs.list.list_made.Goals as goal

pub returns-in-Ok : goal.returns-in-Ok
returns-in-Ok c =
    rw (sym c.in_ok-into_ref.ensures) (made_by list_fault (λ (p : ListParts). p) _ _ _ c.in-Ok.ensures.refusal c.in-Ok.ensures.made refl)

pub returns-in-Err : goal.returns-in-Err
returns-in-Err c =
    rw (sym c.in_ok-into_ref.ensures, c.refusal.ensures) (refused_by list_fault (λ (p : ListParts). p) _ _ c.in-Err.ensures.refusal)
