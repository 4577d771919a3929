-- What is told of a mask from outside.
use Rattle.std.specs.Prelude.{◌≡◌, ◌≢◌, ◌⊎◌, ℕ, ◌==◌, List, ◌++◌, take, drop, length, if◌then◌else◌, nat_lt, nat_le}
use Rattle.vx_bits.specs.BitBuffer.{true_count_of}
use Rattle.vx_filter.specs.Compact.{bits_of_words}
use Rattle.vx_mask.specs.Positions.{rank_of, set_of}
use Rattle.vx_words.specs.Masks.{count_of, mask_fault}

-- why the set positions can't be listed in so much room: the mask's fault, else 3 where more are
-- set than there is room for, else 0
abbrev pub list_fault : ℕ → List ℕ → ℕ → ℕ
list_fault rows words room =
    if mask_fault rows words == 0
    then if nat_lt room (count_of words) then 3 else 0
    else mask_fault rows words

-- the set positions stand at the front of the output and the rest of it is as it was, or the call
-- was refused and all of it is
pub record AreListed (rows : ℕ) (words old new : List ℕ) (status value : ℕ) : Type 0 where
  pub fault : status ≡ list_fault rows words (length old)
  pub count : mask_fault rows words ≡ 0 → value ≡ count_of words
  pub untold : (status ≡ 1) ⊎ (status ≡ 2) → value ≡ 0
  pub positions : status ≡ 0 → new ≡ set_of (bits_of_words words) ++ drop value old
  pub refused : status ≢ 0 → new ≡ old

-- why there is no k-th set position: the mask's fault, else 4 where no more than k are set, else 0
abbrev pub rank_fault : ℕ → List ℕ → ℕ → ℕ
rank_fault rows words k =
    if mask_fault rows words == 0
    then if nat_le (count_of words) k then 4 else 0
    else mask_fault rows words

-- the k-th set position, or how many are set where they are not more than k
pub record IsRanked (rows : ℕ) (words : List ℕ) (k status value : ℕ) : Type 0 where
  pub fault : status ≡ rank_fault rows words k
  pub position : status ≡ 0 → value ≡ rank_of (bits_of_words words) k
  pub count : status ≡ 4 → value ≡ count_of words
  pub untold : (status ≡ 1) ⊎ (status ≡ 2) → value ≡ 0

-- why no row is at p: the mask's fault, else 4 where p is past the rows, else 0
abbrev pub place_fault : ℕ → List ℕ → ℕ → ℕ
place_fault rows words p =
    if mask_fault rows words == 0
    then if nat_lt rows p then 4 else 0
    else mask_fault rows words

-- how many bits before p are set
pub record IsCounted (rows : ℕ) (words : List ℕ) (p status value : ℕ) : Type 0 where
  pub fault : status ≡ place_fault rows words p
  pub count : status ≡ 0 → value ≡ true_count_of (take p (bits_of_words words))
  pub untold : status ≢ 0 → value ≡ 0
