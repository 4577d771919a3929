-- Cells of key columns.
use Rattle.std.specs.Prelude.{◌≡◌, ℕ, zero, suc, Bool, true, false, cond, List, [], ◌∷◌, map, take, drop, Option, None, Some}
use Rattle.std.specs.Int.{from_le_bytes, w64}
use Rattle.std.specs.List.{All, list_any}
use Rattle.vx_types.specs.RowValue.{RowValue, null, bit, bytes}
use Rattle.vx_types.specs.TypeTree.{is_flat}
use Rattle.vx_model.specs.Column.{Column}
use Rattle.vx_join.specs.declared.cells.KeyCell.{KeyCell}
use Rattle.vx_join.specs.declared.cells.KeyCell.TheVariants as cells
use Rattle.vx_join.specs.declared.prefixes.RowKey.{RowKey}

-- the row that it stands for
abbrev pub value_of : KeyCell → RowValue
value_of cells.Null = null
value_of (cells.Bit b) = bit b
value_of (cells.Bytes b) = bytes b.now

abbrev pub is_null_cell : KeyCell → Bool
is_null_cell cells.Null = true
is_null_cell (cells.Bit b) = false
is_null_cell (cells.Bytes b) = false

-- each column is of a flat type
abbrev pub AreFlat : List Column → Type 0
AreFlat columns = All (λ (c : Column). is_flat c.dtype ≡ true) columns

-- the rows of each column
abbrev pub rows_of : List Column → List (List RowValue)
rows_of columns = map (λ (c : Column). c.rows) columns

-- the key of a row's cells: none where one is null
abbrev pub key_cells : List KeyCell → Option (List KeyCell)
key_cells row = cond (list_any is_null_cell row) None (Some row)

-- so many pieces of a list, each so long
abbrev pub pieces : {X : Type 0} → ℕ → ℕ → List X → List (List X)
pieces width zero xs = []
pieces width (suc n) xs = take width xs ∷ pieces width n (drop width xs)

-- ---- keys with a number in front

-- a number that equal values share: the first eight bytes of a record, with zeros past its end
abbrev pub value_prefix : RowValue → ℕ
value_prefix (bytes xs) = from_le_bytes w64 xs
value_prefix x = 0

abbrev pub row_prefix : List KeyCell → ℕ
row_prefix [] = 0
row_prefix (x ∷ xs) = value_prefix (value_of x)

abbrev pub key_parts : Option RowKey → Option (ℕ × List KeyCell)
key_parts None = None
key_parts (Some k) = Some (k.prefix, k.cells.now)

abbrev pub with_prefix : Option (List KeyCell) → Option (ℕ × List KeyCell)
with_prefix None = None
with_prefix (Some row) = Some (row_prefix row, row)
