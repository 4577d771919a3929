-- Lists of one size, one after another.
use Rattle.std.specs.Prelude.{◌≡◌, ℕ, ◌*◌, Bool, List, length, map, replicate, Option, None, Some, slice_range}
use Rattle.std.specs.List.{flat_map, items_where_true}
use Rattle.vx_bits.specs.BitBuffer.{true_count_of}
use Rattle.vx_types.specs.RowValue.{RowValue}
use Rattle.vx_offsets.specs.Offsets.{items_in}
use Rattle.vx_model.specs.FixedSizeList.{runs_from}
use Rattle.vx_take.specs.Picks.{at, in_runs}

-- n lists of `size` elements each: list i is the elements from i * size on
abbrev pub fixed_lists : {X : Type 0} → ℕ → ℕ → List X → List (List X)
fixed_lists size n elements = map (items_in elements) (runs_from 0 size n)

-- each bit `size` times
abbrev pub repeat_bits : ℕ → List Bool → List Bool
repeat_bits size bits = flat_map (replicate size) bits

-- the elements of a run of lists
abbrev pub scaled_run : ℕ → ℕ × ℕ → ℕ × ℕ
scaled_run size run = (run.0 * size, run.1 * size)

-- the selected lists are those of the elements that bits keep
abbrev pub FiltersFixed : ℕ → List Bool → List Bool → Type 0
FiltersFixed size selection bits =
    (elements : List RowValue) → length selection * size ≡ length elements
    → fixed_lists size (true_count_of selection) (items_where_true bits elements)
    ≡ items_where_true selection (fixed_lists size (length selection) elements)

-- where the elements of a picked list lie: their start, and how many they are; a null takes those
-- of list 0
abbrev pub fixed_run : ℕ → Option ℕ → ℕ × ℕ
fixed_run size None = (0, size)
fixed_run size (Some i) = (i * size, size)

-- the picked lists, and list 0 at a null, are those of the elements of runs
abbrev pub TakesFixed : ℕ → ℕ → List (Option ℕ) → List (ℕ × ℕ) → Type 0
TakesFixed size rows picks runs =
    (elements : List RowValue) → rows * size ≡ length elements
    → fixed_lists size (length picks) (in_runs elements runs)
    ≡ at (slice_range elements 0 size) (fixed_lists size rows elements) picks
