-- What a take from outside answers, and what it leaves.
use Rattle.std.specs.Prelude.{◌≡◌, ◌≢◌, ◌⊎◌, ℕ, ◌<◌, ◌≤◌, ◌==◌, Bool, true, List, ◌++◌, length, map, take, drop, Option, None, Some, slice_index, slice_index_or, if◌then◌else◌, nat_lt}
use Rattle.std.specs.List.{range_with_len}
use Rattle.vx_filter.specs.Compact.{bits_of_words}
use Rattle.vx_take.specs.Picks.{at}
use Rattle.vx_words.specs.Masks.{mask_fault}

-- whether pick k is not null: all are where there are no words
abbrev pub is_there : List ℕ → ℕ → Bool
is_there valid k = slice_index_or (bits_of_words valid) k true

-- pick k: an index, or none where it is not there
abbrev pub pick_at : List ℕ → List ℕ → ℕ → Option ℕ
pick_at indices valid k = if is_there valid k then Some (slice_index indices k) else None

-- all of them
abbrev pub picks_at : List ℕ → List ℕ → List (Option ℕ)
picks_at indices valid = map (pick_at indices valid) (range_with_len 0 (length indices))

-- why words do not say which of so many picks are there: none are needed, else they are a mask
abbrev pub valid_fault : ℕ → List ℕ → ℕ
valid_fault picks valid = if length valid == 0 then 0 else mask_fault picks valid

-- why so many picks do not fit into so much room
abbrev pub take_fault : ℕ → List ℕ → ℕ → ℕ
take_fault picks valid room =
    if valid_fault picks valid == 0
    then if nat_lt room picks then 3 else 0
    else valid_fault picks valid

-- pick k is not null, and its index is not below the bound
pub record IsPast (bound : ℕ) (indices valid : List ℕ) (k : ℕ) : Type 0 where
  pub within : k < length indices
  pub there : is_there valid k ≡ true
  pub past : bound ≤ slice_index indices k

-- so is no pick before it
pub record IsFirstPast (bound : ℕ) (indices valid : List ℕ) (k : ℕ) : Type 0 where
  pub is : IsPast bound indices valid k
  pub first : (j : ℕ) → j < k → IsPast bound indices valid j → ⊥

-- the items at the picks stand at the front of the output, `fill` at each null, and the rest of it
-- is as it was; or the call was refused and all of it is
pub record IsTaken {X : Type 0} (fill : X) (src : List X) (indices valid : List ℕ)
    (old new : List X) (status value : ℕ) : Type 0 where
  pub fault : take_fault (length indices) valid (length old) ≢ 0
      → status ≡ take_fault (length indices) valid (length old)
  pub fits : take_fault (length indices) valid (length old) ≡ 0 → (status ≡ 0) ⊎ (status ≡ 4)
  pub inside : status ≡ 0 → (k : ℕ) → IsPast (length src) indices valid k → ⊥
  pub past : status ≡ 4 → IsFirstPast (length src) indices valid value
  pub count : (status ≡ 0) ⊎ (status ≡ 3) → value ≡ length indices
  pub untold : (status ≡ 1) ⊎ (status ≡ 2) → value ≡ 0
  pub items : status ≡ 0 → new ≡ at fill src (picks_at indices valid) ++ drop value old
  pub refused : status ≢ 0 → new ≡ old

-- the items at the first k picks
abbrev pub front_at : {X : Type 0} → X → List X → List ℕ → List ℕ → ℕ → List X
front_at fill src indices valid k = at fill src (map (pick_at indices valid) (range_with_len 0 k))

-- no index of the first k picks is out of bounds, their items stand at the front, and the rest is
-- as it was
pub record IsFront {X : Type 0} (fill : X) (src : List X) (indices valid : List ℕ)
    (old new : List X) (k : ℕ) : Type 0 where
  pub within : k ≤ length indices
  pub inside : (j : ℕ) → j < k → IsPast (length src) indices valid j → ⊥
  pub items : take k new ≡ front_at fill src indices valid k
  pub rest : drop k new ≡ drop k old

-- the items at the picks before the first that is out of bounds stand at the front of the output,
-- `fill` at each null, the number is how many they are, and the rest of it is as it was; or the
-- call was refused and all of it is
pub record IsFrontTaken {X : Type 0} (fill : X) (src : List X) (indices valid : List ℕ)
    (old new : List X) (status value : ℕ) : Type 0 where
  pub fault : status ≡ take_fault (length indices) valid (length old)
  pub room : status ≡ 3 → value ≡ length indices
  pub untold : (status ≡ 1) ⊎ (status ≡ 2) → value ≡ 0
  pub within : status ≡ 0 → value ≤ length indices
  pub inside : status ≡ 0 → (k : ℕ) → k < value → IsPast (length src) indices valid k → ⊥
  pub past : status ≡ 0 → value < length indices → IsPast (length src) indices valid value
  pub items : status ≡ 0 → new ≡ front_at fill src indices valid value ++ drop value old
  pub refused : status ≢ 0 → new ≡ old
