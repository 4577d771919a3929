-- A row as a value: what a row of any type stands for.
use Rattle.std.specs.Prelude.{ℕ, Bool, true, false, List, [], ◌∷◌}

mutual
  pub data RowValue : Type 0 where
    null : RowValue
    bit : Bool → RowValue
    -- a number, text or other bytes, as they are stored
    bytes : List ℕ → RowValue
    list : RowValues → RowValue
    -- a record's fields, in order
    fields : RowValues → RowValue
    -- a type id, and the row of that variant
    tagged : ℕ → RowValue → RowValue

  pub data RowValues : Type 0 where
    none : RowValues
    more : RowValue → RowValues → RowValues

abbrev pub row_values : List RowValue → RowValues
row_values [] = none
row_values (x ∷ xs) = more x (row_values xs)

abbrev pub is_null : RowValue → Bool
is_null null = true
is_null (bit b) = false
is_null (bytes b) = false
is_null (list xs) = false
is_null (fields xs) = false
is_null (tagged n x) = false
