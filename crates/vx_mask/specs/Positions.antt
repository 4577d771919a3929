-- The set positions of a list of bits.
use Rattle.std.specs.Prelude.{◌≡◌, ◌↔◌, ℕ, ◌+◌, ◌-◌, ◌<◌, ◌≤◌, ◌==◌, ◌&&◌, Bool, true, false, List, [], ◌∷◌, length, map, Option, None, Some, slice_get, slice_index, slice_index_or, if◌then◌else◌, nat_le, nat_lt}
use Rattle.std.specs.List.{All, AllAdjacentBelow, range_with_len, flat_map, items_where_true, list_any}
use Rattle.std.specs.Str.{bytes_eq}
use Rattle.vx_bits.specs.BitBuffer.{true_count_of}

-- the positions of the set bits, ascending, where the first bit has position `at`
abbrev pub positions : ℕ → List Bool → List ℕ
positions at [] = []
positions at (bit ∷ bits) = if bit then at ∷ positions (at + 1) bits else positions (at + 1) bits

-- the set positions
abbrev pub set_of : List Bool → List ℕ
set_of bits = positions 0 bits

-- the k-th set position, from 0
abbrev pub rank_of : List Bool → ℕ → ℕ
rank_of bits k = slice_index (set_of bits) k

-- the positions of the runs, one run after another
abbrev pub run_positions : List (ℕ × ℕ) → List ℕ
run_positions runs = flat_map (λ run. range_with_len run.0 (run.1 - run.0)) runs

-- `len` bits, set at just these positions
abbrev pub bits_with : ℕ → List ℕ → List Bool
bits_with len set = map (λ i. list_any (λ p. p == i) set) (range_with_len 0 len)

-- whether each index is above the one before, the first at least `low`, and each below `len`
abbrev pub ascending : ℕ → ℕ → List ℕ → Bool
ascending low len [] = true
ascending low len (index ∷ indices) =
    nat_le low index && (nat_lt index len && ascending (index + 1) len indices)

-- whether no run is empty, each starts at or after the end of the one before, the first at or
-- after `low`, and each ends at or before `len`
abbrev pub runs_ascend : ℕ → ℕ → List (ℕ × ℕ) → Bool
runs_ascend low len [] = true
runs_ascend low len (run ∷ runs) =
    nat_le low run.0 && (nat_lt run.0 run.1 && (nat_le run.1 len && runs_ascend run.1 len runs))

-- a later rank is a later position
abbrev pub RanksAscend : List Bool → Type 0
RanksAscend bits =
    (j k : ℕ) → j < k → k < true_count_of bits → rank_of bits j < rank_of bits k

-- a bit is set just where its position is a rank
abbrev pub RanksAreTheSet : List Bool → Type 0
RanksAreTheSet bits =
    (p : ℕ) → (slice_get bits p ≡ Some true)
    ↔ ((k : ℕ) × (k < true_count_of bits) × (rank_of bits k ≡ p))

-- each bit from `from` on and before `to` is `value`
abbrev pub AllBits : List Bool → ℕ → ℕ → Bool → Type 0
AllBits bits from to value = (k : ℕ) → from ≤ k → k < to → slice_index_or bits k false ≡ value

-- the first set bits from `low` on are a run from `start` on that lasts up to `end` at least
pub record BeginsWithRun (bits : List Bool) (low start end : ℕ) : Type 0 where
  pub from : low ≤ start
  pub some : start < end
  pub within : end ≤ length bits
  pub clear : AllBits bits low start false
  pub set : AllBits bits start end true

-- whether two lists of numbers are the same
abbrev pub same_numbers : List ℕ → List ℕ → Bool
same_numbers = bytes_eq

-- where the set positions are all those from a start up to an end, and some, that run
abbrev pub span_of : List Bool → Option (ℕ × ℕ)
span_of bits =
    let start = rank_of bits 0 in
    let count = true_count_of bits in
    if nat_lt 0 count && same_numbers (set_of bits) (range_with_len start count)
    then Some (start, start + count)
    else None

-- the set positions are all those from `start` up to `end`, and there are some
pub record IsSpan (bits : List Bool) (start end : ℕ) : Type 0 where
  pub some : start < end
  pub set : set_of bits ≡ range_with_len start (end - start)

-- runs behind one more set bit: the first of them begins with it where it lay just behind it, else
-- the bit is a run by itself
abbrev pub runs_with : ℕ → List (ℕ × ℕ) → List (ℕ × ℕ)
runs_with at [] = (at, at + 1) ∷ []
runs_with at (run ∷ runs) =
    if run.0 == at + 1 then (at, run.1) ∷ runs else (at, at + 1) ∷ run ∷ runs

-- the maximal runs of set bits, where the first bit has position `at`
abbrev pub runs_from : ℕ → List Bool → List (ℕ × ℕ)
runs_from at [] = []
runs_from at (bit ∷ bits) =
    if bit then runs_with at (runs_from (at + 1) bits) else runs_from (at + 1) bits

-- the maximal runs of set bits, ascending: none is empty, and no two touch
abbrev pub maximal_runs : List Bool → List (ℕ × ℕ)
maximal_runs bits = runs_from 0 bits

-- no run is empty, each starts beyond the end of the one before, and they cover just the set
-- positions
pub record AreMaximalRuns (bits : List Bool) (runs : List (ℕ × ℕ)) : Type 0 where
  pub none_empty : All (λ run. run.0 < run.1) runs
  pub apart : AllAdjacentBelow (λ run next. run.1 < next.0) runs (length runs)
  pub cover : run_positions runs ≡ set_of bits

-- the items that a first mask keeps, and of those the ones that a second mask keeps, are the items
-- at the first mask's ranks of the second one's set positions
abbrev pub FiltersJoin : {X : Type 0} → List Bool → List Bool → List X → Type 0
FiltersJoin bits next items =
    length bits ≡ length items
    → length next ≡ true_count_of bits
    → map Some (items_where_true next (items_where_true bits items))
    ≡ map (λ k. slice_get items (rank_of bits k)) (set_of next)
