-- A row of a column of any format, and the rows at picks.
use Rattle.std.specs.Prelude.{ℕ, Bool, List, [], ◌∷◌, Option, Some, None, map, slice_index_or}

mutual
  pub data RowValue : Type 0 where
    null : RowValue
    bit : Bool → RowValue
    -- the bytes of a value or of a text
    bytes : List ℕ → RowValue
    list : RowValues → RowValue
    -- the fields of a struct, in order
    fields : RowValues → RowValue
    -- the row of a union: a child's id, and that child's row
    tagged : ℕ → RowValue → RowValue

  pub data RowValues : Type 0 where
    none : RowValues
    more : RowValue → RowValues → RowValues

abbrev pub row_values : List RowValue → RowValues
row_values [] = none
row_values (x ∷ xs) = more x (row_values xs)

-- the row at a pick: null where the pick is
abbrev pub row_at : List RowValue → Option ℕ → RowValue
row_at rows None = null
row_at rows (Some p) = slice_index_or rows p null

-- the rows at picks
abbrev pub picked : List (Option ℕ) → List RowValue → List RowValue
picked picks rows = map (row_at rows) picks
