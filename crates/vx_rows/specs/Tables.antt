-- A column of structs and the table of its fields, one as the other.
use Rattle.std.specs.Prelude.{◌≡◌, None, true}
use Rattle.vx_types.specs.FieldTypes.{FieldTypes}
use Rattle.vx_model.specs.Column.{Column}
use Rattle.vx_model.specs.Columns.{types_in}
use Rattle.vx_model.specs.Struct.{StructParts, struct_column, struct_fault}
use Rattle.vx_model.specs.Valid.{non_nullable}
use Rattle.vx_table.specs.Table.{TableValue}
use Rattle.vx_rows.specs.Pages.{is_table}

-- sound structs, none of which may be null
pub record AreTable (structs : StructParts) : Type 0 where
  pub sound : struct_fault structs ≡ None
  pub valid : structs.valid ≡ non_nullable

-- the column is a table, of these structs
pub record IsTableOf (c : Column) (structs : StructParts) : Type 0 where
  pub table : is_table c ≡ true
  pub column : c ≡ struct_column structs
  pub sound : AreTable structs

-- the fields of structs as a table
abbrev pub fields_table : StructParts → TableValue
fields_table s = record { names = s.types.names; columns = s.columns; len = s.len }

-- names and types of a table's columns
abbrev pub fields_in : TableValue → FieldTypes
fields_in t = record { names = t.names; types = types_in t.columns }

-- the columns of a table as the fields of structs, none of them null
abbrev pub table_structs : TableValue → StructParts
table_structs t =
    record { columns = t.columns; types = fields_in t; len = t.len; valid = non_nullable }
