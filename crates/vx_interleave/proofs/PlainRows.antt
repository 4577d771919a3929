-- Rows that are stored in their place.
use Rattle.std.proofs.Common.{◌≡◌, true, false, List, refl, ap}
use Rattle.std.specs.Prelude.{◌&&◌, ◌||◌}
use Rattle.vx_types.specs.RowValue.{RowValue}
use Rattle.vx_types.specs.TypeTree.{TypeKind, primitive_kind}
use Rattle.vx_types.specs.declared.nullability.Nullability.{Nullability}
use Rattle.vx_types.specs.declared.nullability.Nullability.TheVariants.{NonNullable, Nullable}
use Rattle.vx_model.specs.Column.{Cover}
use Rattle.vx_model.specs.Plain.{is_lazy_layout, is_null_layout, is_row_layout}
use Rattle.vx_model.specs.Records.{record_layout}
use Rattle.vx_model.specs.Valid.{Valid, cover_by, is_flat_cover}
use Rattle.vx_interleave.specs.Rows.{IsValidityOf}

-- a validity of rows is one answer for all, or bits
pub flat_cover : (n : Nullability) (rows : List RowValue) (v : Valid) → IsValidityOf n rows v → is_flat_cover (cover_by v) ≡ true
flat_cover NonNullable rows v is = ap (λ (u : Valid). is_flat_cover (cover_by u)) is
flat_cover Nullable rows v is = ap (λ (u : Valid). is_flat_cover (cover_by u)) is

-- records of either layout
pub records_direct : (k : TypeKind) → is_lazy_layout (record_layout k) ≡ false
records_direct (primitive_kind p) = refl
records_direct k = refl

pub records_unwrapped : (k : TypeKind) (cover : Cover) → is_flat_cover cover ≡ true → (is_null_layout (record_layout k) || (is_row_layout (record_layout k) && is_flat_cover cover)) ≡ true
records_unwrapped (primitive_kind p) cover h = h
records_unwrapped k cover h = h
