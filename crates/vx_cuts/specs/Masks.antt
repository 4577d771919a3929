-- A mask of the whole, over each part.
use Rattle.std.specs.Prelude.{◌≡◌, ◌≢◌, ℕ, ◌+◌, ◌*◌, ◌^◌, ◌==◌, ◌&&◌, List, length, map, nat_le, nat_lt, slice_index, if◌then◌else◌}
use Rattle.std.specs.List.{range_with_len, sum}
use Rattle.vx_bits.specs.BitBuffer.{true_count_of}
use Rattle.vx_words.specs.Bits.{bits_at}
use Rattle.vx_cuts.specs.Bounds.{bounds_of}

-- how many rows of part k the mask from bit `at` of the words on keeps
abbrev pub kept_in : List ℕ → ℕ → List ℕ → ℕ → ℕ
kept_in words at lengths k = true_count_of
    (bits_at words (at + slice_index (bounds_of lengths) k) (slice_index lengths k))

-- 1 where the words do not hold a bit for each row, or 64 bits do not count these bits, else 0
abbrev pub mask_fault : List ℕ → ℕ → List ℕ → ℕ
mask_fault words at lengths =
    if nat_lt (at + sum lengths) (2 ^ 64) && nat_le (at + sum lengths) (64 * length words)
    then 0 else 1

-- how many rows each part keeps is written; or the call was refused and the list is as it was
pub record IsMaskCut (words : List ℕ) (at : ℕ) (lengths old new : List ℕ) (status value : ℕ)
    : Type 0 where
  pub fault : status
      ≡ (if length old == length lengths then mask_fault words at lengths else 1)
  pub untold : value ≡ 0
  pub kept : status ≡ 0
      → new ≡ map (kept_in words at lengths) (range_with_len 0 (length lengths))
  pub refused : status ≢ 0 → new ≡ old
