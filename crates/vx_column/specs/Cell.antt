-- One stored row.
use Rattle.std.specs.Prelude.{◌≡◌, ℕ, ◌<◌, ◌≤◌, ◌==◌, true, List, [], ◌∷◌, length, map, Option, Some, None, slice_index_or, slice_range, if◌then◌else◌}
use Rattle.vx_types.specs.RowValue.{RowValue, null, bit, bytes, tagged}
use Rattle.vx_types.specs.Nullability.{is_nullable}
use Rattle.vx_types.specs.Scalar.{is_of_bytes, is_width_of}
use Rattle.vx_types.specs.TypeTree.{TypeKind, TypeTree, TypeTrees, is_bool_kind, more_types, no_types, struct_kind, type_width, types_of, union_kind}
use Rattle.vx_model.specs.Column.{Column}
use Rattle.vx_model.specs.Columns.{are_long_past, columns_depth, types_in}
use Rattle.vx_model.specs.Extension.{storage_type}
use Rattle.vx_model.specs.Struct.{fields_row}
use Rattle.vx_model.specs.Lists.{elements_type, list_row}
use Rattle.vx_model.specs.Valid.{Valid, non_nullable, all_valid, all_invalid, by_column}
use Rattle.vx_column.specs.declared.cell.Cell.{Cell}
use Rattle.vx_column.specs.declared.cell.Cell.TheVariants as cells

-- the row that it stands for
abbrev pub row_of : Cell → RowValue
row_of cells.Null = null
row_of (cells.Bit b) = bit b
row_of (cells.Bytes b) = bytes b.now
row_of (cells.List l) = list_row (slice_range l.elements.now.rows l.start l.end)
row_of (cells.Fields f) =
    fields_row (map (λ (c : Column). slice_index_or c.rows f.row null) f.columns.now)
row_of (cells.Tagged t) = tagged t.id (slice_index_or t.column.now.rows t.row null)

-- how deep the column that it borrows nests
abbrev pub cell_depth : Cell → ℕ
cell_depth cells.Null = 0
cell_depth (cells.Bit b) = 0
cell_depth (cells.Bytes b) = 0
cell_depth (cells.List l) = l.elements.now.depth
cell_depth (cells.Fields f) = columns_depth f.columns.now
cell_depth (cells.Tagged t) = t.column.now.depth

-- bytes are a row of this type, and as many as it says, where it says so
pub record AreBytesOf (t : TypeTree) (b : List ℕ) : Type 0 where
  pub kind : is_of_bytes t.kind ≡ true
  pub width : is_width_of (type_width t) b ≡ true

-- rows of a column are those of a list of this type
pub record AreElementsOf (t : TypeTree) (c : Column) (start end : ℕ) : Type 0 where
  pub kind : elements_type t.kind ≡ Some c.dtype
  pub ordered : start ≤ end
  pub within : end ≤ length c.rows

-- the types of the fields of a struct
abbrev pub field_types : TypeKind → Option TypeTrees
field_types (struct_kind names ts) = Some ts
field_types k = None

-- row i of columns is one of a struct of this type
pub record AreFieldsOf (t : TypeTree) (cs : List Column) (row : ℕ) : Type 0 where
  pub kind : field_types t.kind ≡ Some (types_of (types_in cs))
  pub within : are_long_past row cs ≡ true

-- the type that stands where the id does
abbrev pub type_by_id : List ℕ → TypeTrees → ℕ → Option TypeTree
type_by_id [] ts id = None
type_by_id (v ∷ ids) no_types id = None
type_by_id (v ∷ ids) (more_types k n ts) id =
    if v == id then Some (record { kind = k; nullability = n }) else type_by_id ids ts id

-- the type of the variant of this id
abbrev pub variant_type : TypeKind → ℕ → Option TypeTree
variant_type (union_kind ids names ts) id = type_by_id ids ts id
variant_type k id = None

-- row i of a column is one of the variant of this id
pub record IsVariantOf (t : TypeTree) (id : ℕ) (c : Column) (row : ℕ) : Type 0 where
  pub kind : variant_type t.kind id ≡ Some c.dtype
  pub within : row < length c.rows

-- a null is one of a nullable type, a bit one of a bool type, bytes are of a type that has such, a
-- list's elements are of the type that its type says, a struct's fields of those that it says, and
-- a union's row of its variant's
abbrev pub IsStoredAs : Cell → TypeTree → Type 0
IsStoredAs cells.Null t = is_nullable t.nullability ≡ true
IsStoredAs (cells.Bit b) t = is_bool_kind t.kind ≡ true
IsStoredAs (cells.Bytes b) t = AreBytesOf t b.now
IsStoredAs (cells.List l) t = AreElementsOf t l.elements.now l.start l.end
IsStoredAs (cells.Fields f) t = AreFieldsOf t f.columns.now f.row
IsStoredAs (cells.Tagged v) t = IsVariantOf t v.id v.column.now v.row

-- a cell is a row of the type, which may be an extension of the one that it is stored as
abbrev pub IsOfType : Cell → TypeTree → Type 0
IsOfType cell t = IsStoredAs cell (storage_type t)

-- a validity array has row i
abbrev pub HasRow : Valid → ℕ → Type 0
HasRow non_nullable i = Unit {0}
HasRow all_valid i = Unit {0}
HasRow all_invalid i = Unit {0}
HasRow (by_column c) i = i < length c.rows
