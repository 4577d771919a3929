-- The constructor's answer.
use Rattle.std.proofs.Common.{sym, refl}
use Rattle.vx_types.specs.FieldTypes.{VariantTypes}
use Rattle.vx_types.specs.Variants.{variants_fault}
use Rattle.vx_column_json.proofs.Refusals.{made_by, refused_by}
use Rattle.vx_column_json.proofs.union_.variants_made.Goals as goal

pub returns-in-Ok : goal.returns-in-Ok
returns-in-Ok c =
    rw (sym c.in_ok-types_of.ensures) (made_by variants_fault (λ (x : VariantTypes). x) _ _ _ c.in-Ok.ensures.refusal c.in-Ok.ensures.made refl)

pub returns-in-Err : goal.returns-in-Err
returns-in-Err c =
    rw (sym c.in_ok-types_of.ensures, c.refusal.ensures) (refused_by variants_fault (λ (x : VariantTypes). x) _ _ c.in-Err.ensures.refusal)
