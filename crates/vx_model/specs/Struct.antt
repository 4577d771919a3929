-- Layout `Struct`: a row is that row of each field.
use Rattle.std.specs.Prelude.{ℕ, List, [], map, Option, Some, None, if◌then◌else◌, refl}
use Rattle.std.specs.Coded.{Coded, code_by, coded×, coded_ℕ, coded_list}
use Rattle.vx_types.specs.FieldTypes.{FieldTypes, coded_fields}
use Rattle.vx_types.specs.RowValue.{RowValue, fields, row_values}
use Rattle.vx_types.specs.Same.{are_same_types}
use Rattle.vx_types.specs.TypeTree.{TypeKind, struct_kind, types_of}
use Rattle.vx_types.specs.declared.layout_name.LayoutName.TheVariants.{Struct as StructLayout}
use Rattle.vx_types.specs.declared.error.ColumnError.{ColumnError}
use Rattle.vx_types.specs.declared.error.ColumnError.TheVariants.{WrongType, WrongLength, BadValidity}
use Rattle.vx_model.specs.Column.{Column}
use Rattle.vx_model.specs.ColumnCode.{coded_column}
use Rattle.vx_model.specs.Columns.{are_long, columns_depth, rows_across, types_in}
use Rattle.vx_model.specs.Stored.{StoredParts, stored_column}
use Rattle.vx_model.specs.Valid.{Valid, is_fitting}
use Rattle.vx_model.specs.ValidCode.{coded_valid}

-- what a contract sees of a `StructArray`
pub record StructParts : Type 0 where
  pub columns : List Column
  -- names and types of the fields
  pub types : FieldTypes
  -- rows
  pub len : ℕ
  pub valid : Valid

-- why they are no column, the first that holds
abbrev pub struct_fault : StructParts → Option ColumnError
struct_fault p =
    if are_same_types (types_in p.columns) p.types.types then
    (if are_long p.len p.columns then
    (if is_fitting p.valid p.len then None else Some BadValidity)
    else Some WrongLength)
    else Some WrongType

-- the row of these fields
abbrev pub fields_row : List RowValue → RowValue
fields_row rows = fields (row_values rows)

abbrev pub struct_of : FieldTypes → TypeKind
struct_of t = struct_kind t.names (types_of t.types)

-- a row is those of the fields, or null where the validity says no
abbrev pub stored_structs : StructParts → StoredParts
stored_structs p =
    record {
      layout = StructLayout;
      kind = struct_of p.types;
      items = map fields_row (rows_across p.columns p.len);
      records = [];
      inner = columns_depth p.columns;
      valid = p.valid;
    }

abbrev pub struct_column : StructParts → Column
struct_column p = stored_column (stored_structs p)

abbrev pub coded_struct : Coded StructParts
coded_struct =
    code_by ((List Column × FieldTypes) × (ℕ × Valid))
    (coded× (coded× (coded_list coded_column) coded_fields) (coded× coded_ℕ coded_valid))
    (λ p. ((p.columns, p.types), (p.len, p.valid)))
    (λ f. record { columns = f.0.0; types = f.0.1; len = f.1.0; valid = f.1.1 })
    (λ _. refl)
