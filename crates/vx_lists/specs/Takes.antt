-- What a take leaves of lists.
use Rattle.std.specs.Prelude.{◌≡◌, ℕ, ◌+◌, ◌≤◌, Bool, List, [], ◌∷◌, length, map, slice_index, Option, None, Some, if◌then◌else◌}
use Rattle.std.specs.List.{All}
use Rattle.vx_bits.specs.BitBuffer.{PlacedBits}
use Rattle.vx_types.specs.RowValue.{RowValue}
use Rattle.vx_take.specs.Picks.{BoundedPicks, at, in_runs, run_places}
use Rattle.vx_offsets.specs.Offsets.{lists_at}
use Rattle.vx_lists.specs.Lists.{AreOffsets, last_offset, row_count}
use Rattle.vx_lists.specs.Sums.{length_at, offsets_of}

-- picks name lists that offsets cut, and there is a bit for each pick
pub record FitsOffsets (cuts : List ℕ) (picks : BoundedPicks) (present : List Bool) : Type 0 where
  pub offsets : AreOffsets cuts
  pub bound : picks.bound ≤ row_count cuts
  pub long : length present ≡ length picks.picks

-- the picks whose rows are there, and a null in place of each other one
abbrev pub shown_picks : List Bool → List (Option ℕ) → List (Option ℕ)
shown_picks [] picks = []
shown_picks (b ∷ present) [] = []
shown_picks (b ∷ present) (pick ∷ picks) = (if b then pick else None) ∷ shown_picks present picks

-- the picks whose rows are there by a bit a pick, and a null in place of each other one; all picks
-- where there are no bits
abbrev pub shown_by : Option PlacedBits → List (Option ℕ) → List (Option ℕ)
shown_by None picks = picks
shown_by (Some present) picks = shown_picks present.bits picks

-- how long a picked list is; a null's is empty
abbrev pub picked_length : List ℕ → Option ℕ → ℕ
picked_length offsets None = 0
picked_length offsets (Some i) = length_at offsets i

-- where the elements of a picked list lie: their start, and how many they are
abbrev pub picked_run : List ℕ → Option ℕ → ℕ × ℕ
picked_run offsets None = (0, 0)
picked_run offsets (Some i) = (slice_index offsets i, length_at offsets i)

-- the picked lists, empty at a null, are what new offsets cut the elements of runs into
abbrev pub TakesLists : List ℕ → List (Option ℕ) → List ℕ → List (ℕ × ℕ) → Type 0
TakesLists offsets picks new_offsets runs =
    (elements : List RowValue) → last_offset offsets ≤ length elements
    → lists_at new_offsets (in_runs elements runs) ≡ at [] (lists_at offsets elements) picks

-- new offsets are the sums of the lengths of the picked lists, and runs, which lie within the
-- elements, have their places
pub record IsListTake (offsets : List ℕ) (picks : List (Option ℕ)) (new_offsets : List ℕ)
    (runs : List (ℕ × ℕ)) : Type 0 where
  pub sums : new_offsets ≡ offsets_of (map (picked_length offsets) picks)
  pub places : run_places runs ≡ run_places (map (picked_run offsets) picks)
  pub inside : All (λ run. run.0 + run.1 ≤ last_offset offsets) runs
