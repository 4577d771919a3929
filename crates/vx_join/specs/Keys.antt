-- Key columns, and the rows of two tables whose keys are equal.
use Rattle.std.specs.Prelude.{◌≡◌, ℕ, zero, suc, ◌+◌, ◌<◌, Bool, true, false, List, [], ◌∷◌, length, map, slice_index_or, nat_eq}
use Rattle.std.specs.Cmp.Lexicographic.{pointwise}
use Rattle.std.specs.List.{All}
use Rattle.vx_types.specs.RowValue.{RowValue, null, bit, bytes}
use Rattle.vx_model.specs.Column.{Column}
use Rattle.vx_table.specs.Table.{TableValue}
use Rattle.vx_table.specs.Taken.{items_by_number}
use Rattle.vx_join.specs.Join.{has_key_types}
use Rattle.vx_join.specs.Pairs.{pairs}

abbrev pub same_bit : Bool → Bool → Bool
same_bit true b = b
same_bit false true = false
same_bit false false = true

-- both rows aren't null, and are equal as bits or bytes
abbrev pub same_value : RowValue → RowValue → Bool
same_value (bit a) (bit b) = same_bit a b
same_value (bytes xs) (bytes ys) = pointwise nat_eq xs ys
same_value x y = false

-- they are so in every pair of key columns
abbrev pub rows_match : List RowValue → List RowValue → Bool
rows_match xs ys = pointwise same_value xs ys

-- row i of several columns
abbrev pub row_at : List (List RowValue) → ℕ → List RowValue
row_at columns i = map (λ rows. slice_index_or rows i null) columns

-- so many rows of theirs, from row `at` on
abbrev pub rows_from : List (List RowValue) → ℕ → ℕ → List (List RowValue)
rows_from columns at zero = []
rows_from columns at (suc n) = row_at columns at ∷ rows_from columns (at + 1) n

-- the rows of the key columns of a table
abbrev pub key_rows : TableValue → List ℕ → List (List RowValue)
key_rows t numbers =
    rows_from (map (λ (c : Column). c.rows) (items_by_number numbers t.columns)) 0 t.len

-- the key columns of either side
abbrev pub left_keys : List (ℕ × ℕ) → List ℕ
left_keys keys = map (λ k. k.0) keys

abbrev pub right_keys : List (ℕ × ℕ) → List ℕ
right_keys keys = map (λ k. k.1) keys

-- both columns of each pair are there
abbrev pub AreThere : TableValue → TableValue → List (ℕ × ℕ) → Type 0
AreThere left right keys =
    All (λ k. (k.0 < length left.columns) × (k.1 < length right.columns)) keys

-- and their types are those of keys
abbrev pub AreOfKeyTypes : TableValue → TableValue → List (ℕ × ℕ) → Type 0
AreOfKeyTypes left right keys = All (λ k. has_key_types left right k ≡ true) keys

-- the pairs of rows whose keys are equal, by the left and then by the right row
abbrev pub matching_pairs : TableValue → TableValue → List (ℕ × ℕ) → List (ℕ × ℕ)
matching_pairs left right keys =
    pairs rows_match (key_rows left (left_keys keys)) (key_rows right (right_keys keys))
