-- Bits of several lists, in any order.
use Rattle.std.specs.Prelude.{◌≡◌, ◌≢◌, ℕ, ◌+◌, ◌*◌, ◌==◌, ◌&&◌, Bool, false, List, length, map, nat_le, if◌then◌else◌}
use Rattle.std.specs.List.{list_all}
use Rattle.vx_bits.specs.Words.{word_count}
use Rattle.vx_words.specs.Bits.{bits_at, words_of}
use Rattle.vx_cuts.specs.Interleaving.{AreInside, IsFirstOutside, items_at}
use Rattle.vx_cuts.specs.declared.bits.BitRows.{BitRows}

-- whether the words hold the bits
abbrev pub is_held : BitRows → Bool
is_held list = nat_le (list.at + list.len) (64 * length list.words.now)

abbrev pub all_held : List BitRows → Bool
all_held lists = list_all is_held lists

-- the bits of a list
abbrev pub bits_of : BitRows → List Bool
bits_of list = bits_at list.words.now list.at list.len

-- of each list
abbrev pub bits_in : List BitRows → List (List Bool)
bits_in lists = map bits_of lists

-- 1 where there are not as many rows as parts, not as many words as hold a bit for each, or the
-- words of a list do not hold its bits, else 0
abbrev pub bit_rooms_fault : List BitRows → ℕ → ℕ → ℕ → ℕ
bit_rooms_fault lists parts rows room =
    if rows == parts && room == word_count parts && all_held lists then 0 else 1

-- the bits at the places are written, a clear one at each null's, and clear bits fill the last
-- word; or the call was refused, and the list is as it was
pub record AreBitsInterleaved (lists : List BitRows) (parts rows old new : List ℕ)
    (status value : ℕ) : Type 0 where
  pub rooms : bit_rooms_fault lists (length parts) (length rows) (length old) ≢ 0 → status ≡ 1
  pub lengths : status ≡ 1 → bit_rooms_fault lists (length parts) (length rows) (length old) ≡ 1
  pub inside : status ≡ 0 → AreInside (bits_in lists) parts rows
  pub outside : (status ≢ 0) → (status ≢ 1)
      → (status ≡ 4) × IsFirstOutside (bits_in lists) parts rows value
  pub untold : status ≢ 4 → value ≡ 0
  pub bits : status ≡ 0 → new ≡ words_of (items_at false (bits_in lists) parts rows)
  pub refused : status ≢ 0 → new ≡ old
