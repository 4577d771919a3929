-- Layouts `Primitive` and `Decimal`: a record of a number a row.
use Rattle.std.specs.Prelude.{ℕ, ◌==◌, Bool, false, length, List, map, Option, Some, None, if◌then◌else◌, refl}
use Rattle.std.specs.Coded.{Coded, code_by, coded×, coded_ℕ, coded_list}
use Rattle.vx_types.specs.TypeTree.{TypeKind, primitive_kind, kind_width}
use Rattle.vx_types.specs.TypeTreeCode.{coded_kind}
use Rattle.vx_types.specs.RowValue.{bytes}
use Rattle.vx_types.specs.declared.layout_name.LayoutName.{LayoutName}
use Rattle.vx_types.specs.declared.layout_name.LayoutName.TheVariants.{Primitive, Decimal}
use Rattle.vx_types.specs.declared.error.ColumnError.{ColumnError}
use Rattle.vx_types.specs.declared.error.ColumnError.TheVariants.{WrongWidth, BadValidity}
use Rattle.vx_model.specs.Column.{Column}
use Rattle.vx_model.specs.Valid.{Valid, is_fitting}
use Rattle.vx_model.specs.ValidCode.{coded_valid}
use Rattle.vx_model.specs.Stored.{StoredParts, stored_column}

-- what a contract sees of a `RecordArray`, a `PrimitiveArray` or a `DecimalArray`
pub record RecordParts : Type 0 where
  -- a primitive or a decimal kind
  pub kind : TypeKind
  -- bytes of a record
  pub width : ℕ
  pub records : List (List ℕ)
  pub valid : Valid

-- which of the two layouts stores records of this kind
abbrev pub record_layout : TypeKind → LayoutName
record_layout (primitive_kind p) = Primitive
record_layout k = Decimal

-- values of this kind have so many bytes
abbrev pub is_width_of_kind : Option ℕ → ℕ → Bool
is_width_of_kind None w = false
is_width_of_kind (Some k) w = k == w

-- why they are no column, the first that holds
abbrev pub records_fault : RecordParts → Option ColumnError
records_fault p =
    if is_width_of_kind (kind_width p.kind) p.width then
    (if is_fitting p.valid (length p.records) then None else Some BadValidity)
    else Some WrongWidth

-- a row is its record's bytes, or null where the validity says no
abbrev pub stored_records : RecordParts → StoredParts
stored_records p =
    record {
      layout = record_layout p.kind;
      kind = p.kind;
      items = map bytes p.records;
      records = p.records;
      inner = 0;
      valid = p.valid;
    }

abbrev pub records_column : RecordParts → Column
records_column p = stored_column (stored_records p)

-- parts of this type with other records and another validity: what a step leaves
abbrev pub records_with : RecordParts → List (List ℕ) → Valid → RecordParts
records_with p records valid = record p { records = records; valid = valid }

abbrev Fields : Type 0
Fields = (TypeKind × ℕ) × (List (List ℕ) × Valid)

abbrev pub coded_records : Coded RecordParts
coded_records =
    code_by Fields
    (coded× (coded× coded_kind coded_ℕ) (coded× (coded_list (coded_list coded_ℕ)) coded_valid))
    (λ p. ((p.kind, p.width), (p.records, p.valid)))
    (λ f. record { kind = f.0.0; width = f.0.1; records = f.1.0; valid = f.1.1 })
    (λ _. refl)
