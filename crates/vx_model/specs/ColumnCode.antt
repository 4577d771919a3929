-- The code of a column, by which proofs tell columns apart.
use Rattle.std.specs.Prelude.{◌≡◌, ℕ, ℤ, zero, suc, List, Option, refl}
use Rattle.std.specs.Coded.{Coded, code_by, coded×, coded_ℕ, coded_ℤ, coded_list, coded_option}
use Rattle.vx_types.specs.NullabilityCode.{coded_nullability}
use Rattle.vx_types.specs.TypeTree.{TypeKind, TypeTree}
use Rattle.vx_types.specs.TypeTreeCode.{coded_kind, coded_type}
use Rattle.vx_types.specs.RowValue.{RowValue}
use Rattle.vx_types.specs.RowValueCode.{coded_row}
use Rattle.vx_types.specs.declared.layout_name.LayoutName.{LayoutName}
use Rattle.vx_types.specs.declared.nullability.Nullability.{Nullability}
use Rattle.vx_types.specs.contracts.layout_name.LayoutName.{the_row}
use Rattle.vx_model.specs.Column.{Codes, Column, Cover, no_validity, constant_form, by_bools, by_other}

abbrev cover_number : Cover → ℕ
cover_number no_validity = 0
cover_number constant_form = 1
cover_number by_bools = 2
cover_number by_other = 3

abbrev cover_numbered : ℕ → Cover
cover_numbered zero = no_validity
cover_numbered (suc zero) = constant_form
cover_numbered (suc (suc zero)) = by_bools
cover_numbered (suc (suc (suc n))) = by_other

pub cover_numbered_number : (c : Cover) → cover_numbered (cover_number c) ≡ c
cover_numbered_number no_validity = refl
cover_numbered_number constant_form = refl
cover_numbered_number by_bools = refl
cover_numbered_number by_other = refl

abbrev pub coded_cover : Coded Cover
coded_cover = code_by ℕ coded_ℕ cover_number cover_numbered cover_numbered_number

abbrev pub coded_codes : Coded Codes
coded_codes =
    code_by (List (Option ℤ) × Nullability)
    (coded× (coded_list (coded_option coded_ℤ)) coded_nullability)
    (λ c. (c.numbers, c.nullability)) (λ f. record { numbers = f.0; nullability = f.1 }) (λ _. refl)

abbrev Shown : Type 0
Shown = (TypeTree × List RowValue) × (LayoutName × Cover)

abbrev Kept : Type 0
Kept = (List (List ℕ) × Option RowValue) × (Option Codes × (Option TypeKind × ℕ))

abbrev coded_shown : Coded Shown
coded_shown =
    coded× (coded× coded_type (coded_list coded_row)) (coded× the_row.coded coded_cover)

abbrev coded_kept : Coded Kept
coded_kept =
    coded× (coded× (coded_list (coded_list coded_ℕ)) (coded_option coded_row))
    (coded× (coded_option coded_codes) (coded× (coded_option coded_kind) coded_ℕ))

abbrev column_fields : Column → Shown × Kept
column_fields c = (
  ((c.dtype, c.rows), (c.layout, c.cover)),
  ((c.stored, c.constant), (c.codes, (c.dense, c.depth))),
)

abbrev column_with : Shown × Kept → Column
column_with f =
    record {
      dtype = f.0.0.0;
      rows = f.0.0.1;
      layout = f.0.1.0;
      cover = f.0.1.1;
      stored = f.1.0.0;
      constant = f.1.0.1;
      codes = f.1.1.0;
      dense = f.1.1.1.0;
      depth = f.1.1.1.1;
    }

abbrev pub coded_column : Coded Column
coded_column =
    code_by (Shown × Kept) (coded× coded_shown coded_kept) column_fields column_with (λ _. refl)
