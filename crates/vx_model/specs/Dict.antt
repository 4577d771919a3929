-- Layout `Dict`: for each row a code, the number of one of the values.
use Rattle.std.specs.Prelude.{ℕ, ◌+◌, max, List, length, Option, Some, None, is_some, if◌then◌else◌, refl}
use Rattle.std.specs.Coded.{Coded, code_by, coded×}
use Rattle.vx_types.specs.TypeTree.{TypeTree, is_int_type, also_nullable}
use Rattle.vx_types.specs.RowValue.{RowValue, null}
use Rattle.vx_types.specs.declared.layout_name.LayoutName.TheVariants.{Dict}
use Rattle.vx_types.specs.declared.error.ColumnError.{ColumnError}
use Rattle.vx_types.specs.declared.error.ColumnError.TheVariants.{WrongType, CodeOutOfRange}
use Rattle.vx_take.specs.Picks.{at}
use Rattle.vx_positions.specs.Positions.{first_bad, positions_of}
use Rattle.vx_model.specs.Column.{Codes, Column, bare_column}
use Rattle.vx_model.specs.ColumnCode.{coded_column}
use Rattle.vx_model.specs.Numbers.{numbers_of}

-- what a contract sees of a `DictArray`
pub record DictParts : Type 0 where
  pub codes : Column
  pub values : Column

-- why they are no column, the first that holds: the codes are no integers, or one that isn't null
-- names no value
abbrev pub dict_fault : DictParts → Option ColumnError
dict_fault p =
    if is_int_type p.codes.dtype then
    (if is_some (first_bad (length p.values.rows) (numbers_of p.codes)) then Some CodeOutOfRange
    else None)
    else Some WrongType

-- for each code the value that it names, and null for a null
abbrev pub dict_rows : DictParts → List RowValue
dict_rows p = at null p.values.rows (positions_of (numbers_of p.codes))

-- nested in a column of codes and one of values
abbrev pub dict_size : DictParts → ℕ
dict_size p = max p.codes.depth p.values.depth + 1

-- the values' type, nullable also where the codes' is
abbrev pub dict_type : DictParts → TypeTree
dict_type p = also_nullable p.values.dtype p.codes.dtype.nullability

abbrev pub dict_codes : DictParts → Codes
dict_codes p = record { numbers = numbers_of p.codes; nullability = p.codes.dtype.nullability }

abbrev pub dict_column : DictParts → Column
dict_column p =
    record (bare_column (dict_type p) (dict_rows p) Dict (dict_size p + 1)) {
      codes = Some (dict_codes p);
      dense = p.values.dense;
    }

-- the values under other codes: what a step leaves
abbrev pub dict_with : DictParts → Column → DictParts
dict_with p codes = record p { codes = codes }

abbrev pub coded_dict : Coded DictParts
coded_dict =
    code_by (Column × Column) (coded× coded_column coded_column) (λ p. (p.codes, p.values))
    (λ f. record { codes = f.0; values = f.1 }) (λ _. refl)
