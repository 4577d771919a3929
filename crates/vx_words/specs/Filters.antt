-- What a filter from outside answers, and what it leaves.
use Rattle.std.specs.Prelude.{◌≡◌, ◌≢◌, ◌⊎◌, ℕ, ◌+◌, List, ◌++◌, Some, length, map, take, drop, if◌then◌else◌, nat_lt, slice_get}
use Rattle.std.specs.List.{items_where_true}
use Rattle.vx_bits.specs.BitBuffer.{true_count_of}
use Rattle.vx_bits.specs.Words.{word_bits}
use Rattle.vx_mask.specs.Positions.{positions}
use Rattle.vx_words.specs.Bits.{are_held, bits_at}

-- why so many items can't be filtered by as many bits of the words into so much room: 1 where the
-- words do not hold those bits, else 3 where more are selected than there is room for, else 0
abbrev pub filter_fault : ℕ → List ℕ → ℕ → ℕ → ℕ
filter_fault items words mask_at room =
    if are_held words mask_at items
    then if nat_lt room (true_count_of (bits_at words mask_at items)) then 3 else 0
    else 1

-- the items at the mask's set bits stand at the front of the output and the rest of it is as it
-- was, or the call was refused and all of it is
pub record IsFiltered {X : Type 0} (src : List X) (words : List ℕ) (mask_at : ℕ) (old new : List X)
    (status value : ℕ) : Type 0 where
  pub fault : status ≡ filter_fault (length src) words mask_at (length old)
  pub count : (status ≡ 0) ⊎ (status ≡ 3)
      → value ≡ true_count_of (bits_at words mask_at (length src))
  pub untold : status ≡ 1 → value ≡ 0
  pub items : status ≡ 0
      → new ≡ items_where_true (bits_at words mask_at (length src)) src ++ drop value old
  pub refused : status ≢ 0 → new ≡ old

-- the items at the mask's set bits stand at the front, or the call was refused, as the words do not
-- hold so many bits, and all are as before
pub record IsKept {X : Type 0} (words : List ℕ) (mask_at : ℕ) (old new : List X)
    (status value : ℕ) : Type 0 where
  pub fault : status ≡ (if are_held words mask_at (length old) then 0 else 1)
  pub count : status ≡ 0 → value ≡ true_count_of (bits_at words mask_at (length old))
  pub untold : status ≢ 0 → value ≡ 0
  pub items : status ≡ 0
      → take value new ≡ items_where_true (bits_at words mask_at (length old)) old
  pub refused : status ≢ 0 → new ≡ old

-- the items at the set ones of a word's lowest n bits, the first of which has position `from`,
-- stand from place `to` on up to `next`, and n places from `to` on the output is as it was
pub record AreRowsPut {X : Type 0} (src : List X) (from word n : ℕ) (old new : List X)
    (to next : ℕ) : Type 0 where
  pub count : next ≡ to + true_count_of (word_bits word n)
  pub front : map Some (take next new)
      ≡ map Some (take to old) ++ map (slice_get src) (positions from (word_bits word n))
  pub rest : drop (to + n) new ≡ drop (to + n) old
