-- Lists that lie one after another, cut by offsets, and bits for their elements.
use Rattle.std.specs.Prelude.{◌≡◌, ◌↔◌, ℕ, ◌+◌, ◌-◌, ◌<◌, ◌≤◌, Bool, true, List, length, map, Some, slice_get, slice_index}
use Rattle.std.specs.List.{All, AllAdjacentBelow, items_where_true}
use Rattle.vx_mask.specs.Positions.{run_positions, set_of}
use Rattle.vx_offsets.specs.Offsets.{spans}

-- there is an offset, and none is below the one before
pub record AreOffsets (offsets : List ℕ) : Type 0 where
  pub some : 0 < length offsets
  pub ascend : AllAdjacentBelow (λ offset next. offset ≤ next) offsets (length offsets)

-- how many lists there are: one less than offsets
abbrev pub row_count : List ℕ → ℕ
row_count offsets = length offsets - 1

-- the last offset
abbrev pub last_offset : List ℕ → ℕ
last_offset offsets = slice_index offsets (row_count offsets)

-- where the elements of list i lie: from offset i up to offset i + 1
abbrev pub span_at : List ℕ → ℕ → ℕ × ℕ
span_at offsets i = (slice_index offsets i, slice_index offsets (i + 1))

-- where the elements of the selected lists lie
abbrev pub selected_spans : List ℕ → List Bool → List (ℕ × ℕ)
selected_spans offsets selection = items_where_true selection (spans offsets)

-- a span that has elements lies within the range
abbrev pub IsWithin : ℕ × ℕ → ℕ × ℕ → Type 0
IsWithin range span = span.0 < span.1 → (range.0 ≤ span.0) × (span.1 ≤ range.1)

-- the range covers the selected lists
abbrev pub Covers : ℕ × ℕ → List ℕ → List Bool → Type 0
Covers range offsets selection = All (IsWithin range) (selected_spans offsets selection)

-- bits for a range of elements, set just where they lie in the selected lists: the set positions,
-- from the range's start on, are those of the elements of the selected lists, list by list
pub record AreElementBits (offsets : List ℕ) (selection : List Bool) (range : ℕ × ℕ)
    (bits : List Bool) : Type 0 where
  pub len : length bits ≡ range.1 - range.0
  pub set : map (λ p. range.0 + p) (set_of bits) ≡ run_positions (selected_spans offsets selection)

-- element p lies in a selected list
pub record IsInSelected (offsets : List ℕ) (selection : List Bool) (p : ℕ) : Type 0 where
  pub row : ℕ
  pub selected : slice_get selection row ≡ Some true
  pub from : slice_index offsets row ≤ p
  pub to : p < slice_index offsets (row + 1)

-- a bit is set just where the element that it stands for, from `start` on, lies in a selected list
abbrev pub MarksSelected : List ℕ → List Bool → ℕ → List Bool → Type 0
MarksSelected offsets selection start bits =
    (p : ℕ) → (slice_get bits p ≡ Some true) ↔ IsInSelected offsets selection (start + p)
