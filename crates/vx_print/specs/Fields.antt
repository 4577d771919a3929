-- The texts of rows that stand side by side.
use Rattle.std.specs.Prelude.{◌≡◌, ◌==◌, ◌++◌, ℕ, List, [], length, map, slice_index_or}
use Rattle.std.specs.List.{range_with_len}
use Rattle.vx_types.specs.RowValue.{null}
use Rattle.vx_model.specs.Column.{Column}
use Rattle.vx_print.specs.Text.{gap, name_label, row_text}

-- row i of each column
abbrev pub texts_at : List Column → ℕ → List (List ℕ)
texts_at cs i = map (λ (c : Column). row_text c.dtype (slice_index_or c.rows i null)) cs

-- what stands in front of field k: what is between two fields, and its name where it has one
abbrev pub label_at : List (List ℕ) → ℕ → List ℕ
label_at names k = gap (k == 0) ++ slice_index_or (map name_label names) k []

-- texts are what stands in front of the first fields
abbrev pub AreLabels : List (List ℕ) → List (List ℕ) → Type 0
AreLabels names ts = ts ≡ map (label_at names) (range_with_len 0 (length ts))
