-- Positions that ascend, and those that are left of runs and of bits.
use Rattle.std.specs.Prelude.{ℕ, Bool, take, drop, map, ◌+◌, ◌-◌, ◌<◌, ◌≤◌, List, [], ◌∷◌, ◌++◌}
use Rattle.std.specs.List.{range_with_len}
use Rattle.vx_bits.specs.Words.{word_count}
use Rattle.vx_filter.specs.Compact.{bits_of_words}
use Rattle.vx_mask.specs.Positions.{run_positions, positions}

-- each is above the one before, the first at least `low`, and each below `high`
abbrev pub AscendFrom : ℕ → ℕ → List ℕ → Type 0
AscendFrom low high [] = Unit {0}
AscendFrom low high (x ∷ xs) = (low ≤ x) × (x < high) × AscendFrom (x + 1) high xs

-- the positions from start to end, and those of the runs
unfoldable pub with_runs : ℕ → ℕ → List (ℕ × ℕ) → List ℕ
with_runs start end runs = range_with_len start (end - start) ++ run_positions runs

-- the set positions from one on
unfoldable pub positions_from : ℕ → List Bool → List ℕ
positions_from at bits = positions at (drop at bits)

-- a position lies in the chunk whose first position is `base`
abbrev pub IsInChunk : ℕ → ℕ → Type 0
IsInChunk base p = (base ≤ p) × (p < base + 1024)

-- the places within a chunk whose first position is `base`, where positions count from `offset` on
abbrev pub places_of : ℕ → ℕ → List ℕ → List ℕ
places_of offset base positions = map (λ i. offset + i - base) positions

-- the places of the set bits of words, of which the first bit has place `from`, and which hold
-- `len` bits
abbrev pub places_of_words : ℕ → ℕ → List ℕ → List ℕ
places_of_words from len words = positions from (bits_of_words (take (word_count len) words))
