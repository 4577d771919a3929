-- What plans promise of any column of the elements that are left.
use Rattle.std.specs.Prelude.{◌≡◌, ℕ, pos, ◌-◌, ◌≤◌, Bool, true, false, List, [], length, map, replicate, None, if◌then◌else◌}
use Rattle.vx_mask.specs.declared.policy.PolicyFields.{PolicyFields}
use Rattle.vx_types.specs.RowValue.{RowValue}
use Rattle.vx_model.specs.Column.{Column}
use Rattle.vx_model.specs.FixedSizeList.{fixed_fault, fixed_spans}
use Rattle.vx_model.specs.List.{list_fault, list_spans}
use Rattle.vx_model.specs.ListView.{ListViewParts, listview_fault, listview_spans}
use Rattle.vx_model.specs.Lists.{lists_of}
use Rattle.vx_model.specs.Numbers.{integers_of}
use Rattle.vx_model.specs.Records.{RecordParts}
use Rattle.vx_model.specs.Valid.{Valid, non_nullable, all_valid, all_invalid, by_column}
use Rattle.vx_lists.specs.Filters.{crop_range, selected_range, whole_range}
use Rattle.vx_lists.specs.Sums.{concat_lists, offsets_of}

-- any column of the elements that are left makes a column of these lists
abbrev pub MakesLists : RecordParts → Valid → List RowValue → List (List RowValue) → Type 0
MakesLists offsets valid left lists =
    (e : Column) → e.rows ≡ left
    → (list_fault (record { elements = e; offsets = offsets; valid = valid }) ≡ None)
    × (lists_of (list_spans (record { elements = e; offsets = offsets; valid = valid })) ≡ lists)

-- any column of the elements that are left makes a column of these lists, all of one size
abbrev pub MakesFixed : ℕ → ℕ → Valid → List RowValue → List (List RowValue) → Type 0
MakesFixed size len valid left lists =
    (e : Column) → e.rows ≡ left
    → (fixed_fault (record { elements = e; size = size; len = len; valid = valid }) ≡ None)
    × (lists_of (fixed_spans (record { elements = e; size = size; len = len; valid = valid }))
    ≡ lists)

-- these parts make a column of these lists
abbrev pub MakesViews : ListViewParts → List (List RowValue) → Type 0
MakesViews p lists = (listview_fault p ≡ None) × (lists_of (listview_spans p) ≡ lists)

-- no row is there
abbrev pub is_all_invalid : Valid → Bool
is_all_invalid non_nullable = false
is_all_invalid all_valid = false
is_all_invalid all_invalid = true
is_all_invalid (by_column c) = false

-- the lists that stay behind a validity: where no row is valid, each is empty
abbrev pub lists_left : Valid → List (List RowValue) → List (List RowValue)
lists_left v lists = if is_all_invalid v then replicate (length lists) [] else lists

-- the range of old elements that a filter's new ones are among: from the first offset to the last,
-- or the part of it that the selected lists lie in; none where no row is valid
abbrev pub filter_range : PolicyFields → Valid → List ℕ → List Bool → ℕ × ℕ
filter_range fields v offsets selection =
    if is_all_invalid v then (0, 0) else
    crop_range fields (whole_range offsets) (selected_range offsets selection)

-- the elements that are left are these lists, one after another, and offsets are their sums
pub record LeavesLists (new_offsets : List ℕ) (left : List RowValue)
    (lists : List (List RowValue)) : Type 0 where
  pub sums : new_offsets ≡ offsets_of (map length lists)
  pub elements : left ≡ concat_lists lists

-- the elements that are left are these lists, one after another, and the column of offsets has
-- their sums, and makes with the validity a column of these lists
pub record PlansLists (offsets : RecordParts) (valid : Valid) (left : List RowValue)
    (lists : List (List RowValue)) : Type 0 where
  pub sums : integers_of offsets ≡ map pos (offsets_of (map length lists))
  pub elements : left ≡ concat_lists lists
  pub makes : MakesLists offsets valid left lists

-- a range of so many elements, and bits for it
pub record IsRangeOf (count : ℕ) (range : ℕ × ℕ) (bits : ℕ) : Type 0 where
  pub ordered : range.0 ≤ range.1
  pub within : range.1 ≤ count
  pub long : bits ≡ range.1 - range.0
