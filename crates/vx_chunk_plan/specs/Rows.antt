-- Rows of a fixed width, in bytes.
use Rattle.std.specs.Prelude.{◌≡◌, ℕ, ◌+◌, ◌*◌, ◌/◌, ◌<◌, ◌≤◌, ◌⊎◌, List, [], Option, None, Some, drop, length, replicate, slice_index, slice_index_or, take}
use Rattle.std.specs.List.{flat_map}

-- row i of bytes
abbrev pub row_at : ℕ → List ℕ → ℕ → List ℕ
row_at width bytes i = take width (drop (i * width) bytes)

-- the row of a pick: zeros, at a null
abbrev pub picked_row : ℕ → List (List ℕ) → Option ℕ → List ℕ
picked_row width rows None = replicate width 0
picked_row width rows (Some p) = slice_index_or rows p []

-- the rows at picks, one behind another
unfoldable pub answer : ℕ → List (List ℕ) → List (Option ℕ) → List ℕ
answer width rows picks = flat_map (picked_row width rows) picks

-- the `count` rows from row j on are these bytes, and all other bytes are as they were
pub record AreRowsPut (width j count : ℕ) (bytes old new : List ℕ) : Type 0 where
  pub len : length new ≡ length old
  pub rows : (t : ℕ) → t < count → row_at width new (j + t) ≡ row_at width bytes t
  pub others : (b : ℕ) → (b / width < j) ⊎ (j + count ≤ b / width)
      → slice_index new b ≡ slice_index old b
