-- Items of several lists, in any order.
use Rattle.std.specs.Prelude.{◌≡◌, ◌≢◌, ℕ, ◌<◌, ◌==◌, ◌||◌, ◌&&◌, Bool, true, false, List, [], length, map, nat_lt, slice_index, slice_index_or, if◌then◌else◌}
use Rattle.std.specs.Borrow.{Bor}
use Rattle.std.specs.List.{range_with_len}
use Rattle.vx_take.specs.Picks.{null_place}

-- the lists that are borrowed
abbrev pub lists_in : {X : Type 0} → List (Bor (List X)) → List (List X)
lists_in {X} lists = map (λ (list : Bor (List X)). list.now) lists

-- list k; none past the last one
abbrev pub list_at : {X : Type 0} → List (List X) → ℕ → List X
list_at lists k = slice_index_or lists k []

-- whether a place is a row of the lists, or a null's
abbrev pub is_inside : {X : Type 0} → List (List X) → ℕ → ℕ → Bool
is_inside lists part row = (part == null_place) || nat_lt row (length (list_at lists part))

-- each place is
abbrev pub AreInside : {X : Type 0} → List (List X) → List ℕ → List ℕ → Type 0
AreInside lists parts rows = (k : ℕ) → k < length parts
    → is_inside lists (slice_index parts k) (slice_index rows k) ≡ true

-- place k is not, and each before it is
pub record IsFirstOutside {X : Type 0} (lists : List (List X)) (parts rows : List ℕ) (k : ℕ)
    : Type 0 where
  pub within : k < length parts
  pub is : is_inside lists (slice_index parts k) (slice_index rows k) ≡ false
  pub first : (j : ℕ) → j < k → is_inside lists (slice_index parts j) (slice_index rows j) ≡ true

-- the item at a place; `fill` at a null's
abbrev pub item_in : {X : Type 0} → X → List (List X) → ℕ → ℕ → X
item_in fill lists part row =
    if part == null_place then fill else slice_index_or (list_at lists part) row fill

-- the item at place k
abbrev pub item_at : {X : Type 0} → X → List (List X) → List ℕ → List ℕ → ℕ → X
item_at fill lists parts rows k = item_in fill lists (slice_index parts k) (slice_index rows k)

-- the items at so many places from place `start` on
abbrev pub items_from : {X : Type 0} → X → List (List X) → List ℕ → List ℕ → ℕ → ℕ → List X
items_from fill lists parts rows start count =
    map (item_at fill lists parts rows) (range_with_len start count)

-- at all of them
abbrev pub items_at : {X : Type 0} → X → List (List X) → List ℕ → List ℕ → List X
items_at fill lists parts rows = items_from fill lists parts rows 0 (length parts)

-- the items at the places are written, `fill` at each null's; or the call was refused, and the list
-- is as it was
pub record AreInterleaved {X : Type 0} (fill : X) (lists : List (List X)) (parts rows : List ℕ)
    (old new : List X) (status value : ℕ) : Type 0 where
  pub rooms : (length rows == length parts && length old == length parts) ≡ false → status ≡ 1
  pub lengths : status ≡ 1 → (length rows == length parts && length old == length parts) ≡ false
  pub inside : status ≡ 0 → AreInside lists parts rows
  pub outside : (status ≢ 0) → (status ≢ 1) → (status ≡ 4) × IsFirstOutside lists parts rows value
  pub untold : status ≢ 4 → value ≡ 0
  pub items : status ≡ 0 → new ≡ items_at fill lists parts rows
  pub refused : status ≢ 0 → new ≡ old
