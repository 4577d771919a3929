-- What a filter leaves of lists.
use Rattle.std.specs.Prelude.{◌≡◌, ℕ, ◌+◌, ◌-◌, ◌*◌, ◌≤◌, ◌&&◌, nat_le, Bool, List, length, slice_index, slice_range, if◌then◌else◌}
use Rattle.std.specs.List.{items_where_true}
use Rattle.vx_bits.specs.BitBuffer.{true_count_of}
use Rattle.vx_mask.specs.declared.policy.PolicyFields.{PolicyFields}
use Rattle.vx_mask.specs.Positions.{rank_of}
use Rattle.vx_types.specs.RowValue.{RowValue}
use Rattle.vx_offsets.specs.Offsets.{lists_at}
use Rattle.vx_lists.specs.Lists.{Covers, last_offset}

-- from the first offset up to the last
abbrev pub whole_range : List ℕ → ℕ × ℕ
whole_range offsets = (slice_index offsets 0, last_offset offsets)

-- from the start of the first selected list up to the end of the last one
abbrev pub selected_range : List ℕ → List Bool → ℕ × ℕ
selected_range offsets selection = (
  slice_index offsets (rank_of selection 0),
  slice_index offsets (rank_of selection (true_count_of selection - 1) + 1),
)

-- how many elements of a range lie outside a part of it
abbrev pub outside : ℕ × ℕ → ℕ × ℕ → ℕ
outside range part = (range.1 - range.0) - (part.1 - part.0)

-- whether enough elements of a range lie outside a part of it
abbrev pub leaves_out : PolicyFields → ℕ × ℕ → ℕ × ℕ → Bool
leaves_out fields range part =
    nat_le fields.crop_min (outside range part)
    && nat_le (range.1 - range.0) (outside range part * fields.crop_factor)

-- the part, where enough elements lie outside it; else the range
abbrev pub crop_range : PolicyFields → ℕ × ℕ → ℕ × ℕ → ℕ × ℕ
crop_range fields range part = if leaves_out fields range part then part else range

-- a range of elements that covers the selected lists and ends with the last offset or before it
pub record IsElementRange (offsets : List ℕ) (selection : List Bool) (range : ℕ × ℕ) : Type 0 where
  pub ordered : range.0 ≤ range.1
  pub within : range.1 ≤ last_offset offsets
  pub covers : Covers range offsets selection

-- the selected lists are what new offsets cut the elements of the range that bits keep into
abbrev pub FiltersLists : List ℕ → List Bool → List ℕ → ℕ × ℕ → List Bool → Type 0
FiltersLists offsets selection new_offsets range bits =
    (elements : List RowValue) → last_offset offsets ≤ length elements
    → lists_at new_offsets (items_where_true bits (slice_range elements range.0 range.1))
    ≡ items_where_true selection (lists_at offsets elements)
