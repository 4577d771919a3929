-- Rows, each as a cell, as rows of one type.
use Rattle.std.specs.Prelude.{◌≡◌, Bool, not, List, [], ◌∷◌, map, if◌then◌else◌}
use Rattle.std.specs.List.{All}
use Rattle.vx_types.specs.Nullability.{is_nullable}
use Rattle.vx_types.specs.RowValue.{RowValue, RowValues, is_null, none, more}
use Rattle.vx_types.specs.TypeTree.{TypeKind, TypeTree}
use Rattle.vx_types.specs.declared.nullability.Nullability.{Nullability}
use Rattle.vx_types.specs.declared.nullability.Nullability.TheVariants.{NonNullable, Nullable}
use Rattle.vx_model.specs.Bool.{bits_column}
use Rattle.vx_model.specs.Extension.{storage_kind}
use Rattle.vx_model.specs.Filler.{filler_value}
use Rattle.vx_model.specs.Valid.{Valid, non_nullable, by_column}
use Rattle.vx_column.specs.Cell.{IsStoredAs, row_of}
use Rattle.vx_column.specs.declared.cell.Cell.{Cell}

-- the rows that cells stand for
abbrev pub rows_in : List Cell → List RowValue
rows_in cells = map row_of cells

-- the rows that a row is made of, in order
abbrev pub values_of : RowValues → List RowValue
values_of none = []
values_of (more x xs) = x ∷ values_of xs

-- a row of a kind, and a filler in place of a null
abbrev pub stored_as : TypeKind → RowValue → RowValue
stored_as k x = if is_null x then filler_value k else x

-- a row as one of a type: where that has no nulls, a filler stands in place of one
abbrev pub shown_as : TypeTree → RowValue → RowValue
shown_as t x = if is_nullable t.nullability then x else stored_as t.kind x

-- a cell is one of a row of this kind, or a null
abbrev pub IsCellOf : TypeKind → Cell → Type 0
IsCellOf k cell = IsStoredAs cell (record { kind = storage_kind k; nullability = Nullable })

abbrev pub AreCellsOf : TypeKind → List Cell → Type 0
AreCellsOf k cells = All (IsCellOf k) cells

-- whether a row is there
abbrev pub is_there : RowValue → Bool
is_there x = not (is_null x)

-- the validity of rows of a type with this nullability
abbrev pub IsValidityOf : Nullability → List RowValue → Valid → Type 0
IsValidityOf NonNullable rows v = v ≡ non_nullable
IsValidityOf Nullable rows v = v ≡ by_column (bits_column (map is_there rows) 0)
