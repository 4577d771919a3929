-- The constructor's answer.
use Rattle.std.proofs.Common.{sym, refl}
use Rattle.vx_types.specs.FieldTypes.{FieldTypes}
use Rattle.vx_types.specs.Fields.{fields_fault}
use Rattle.vx_column_json.proofs.Refusals.{made_by, refused_by}
use Rattle.vx_column_json.proofs.struct_.fields_made.Goals as goal

pub returns-in-Ok : goal.returns-in-Ok
returns-in-Ok c =
    rw (sym c.in_ok-types_of.ensures) (made_by fields_fault (λ (x : FieldTypes). x) _ _ _ c.in-Ok.ensures.refusal c.in-Ok.ensures.made refl)

pub returns-in-Err : goal.returns-in-Err
returns-in-Err c =
    rw (sym c.in_ok-types_of.ensures, c.refusal.ensures) (refused_by fields_fault (λ (x : FieldTypes). x) _ _ c.in-Err.ensures.refusal)
