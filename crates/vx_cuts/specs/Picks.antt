-- Picks of the whole, cut into each part's own, in lists of the caller's.
use Rattle.std.specs.Prelude.{◌≡◌, ◌≢◌, ℕ, ◌+◌, ◌<◌, ◌==◌, ◌&&◌, Bool, false, List, length, Option, Some, None, slice_index, slice_index_or, slice_range}
use Rattle.vx_take.specs.Picks.{ArePlaces, IsPlace, null_place, picks_of}
use Rattle.vx_cuts.specs.Bounds.{AreBounds, end_of}
use Rattle.vx_cuts.specs.Own.{own_before, own_picks}

-- whether lists are as long as so many picks and bounds ask for
abbrev pub are_rooms : ℕ → ℕ → ℕ → ℕ → ℕ → ℕ → Bool
are_rooms picks bounds own ends parts rows =
    own == picks && parts == picks && rows == picks && bounds == ends + 1

-- place k is neither below the end nor a null
abbrev pub IsBeyond : List ℕ → ℕ → ℕ → Type 0
IsBeyond places end k = IsPlace (slice_index places k) end → ⊥

-- so is no place before it
pub record IsFirstBeyond (places : List ℕ) (end k : ℕ) : Type 0 where
  pub within : k < length places
  pub is : IsBeyond places end k
  pub first : (j : ℕ) → j < k → IsPlace (slice_index places j) end

-- the pick is the item of a part's own list at a row, counted from the part's first row; or it is a
-- null
abbrev pub IsNamed : List ℕ → List (Option ℕ) → Option ℕ → ℕ → ℕ → Type 0
IsNamed bounds picks None part row = (part ≡ null_place) × (row ≡ null_place)
IsNamed bounds picks (Some p) part row =
    (part + 1 < length bounds) × (row < length (own_picks bounds picks part))
    × (slice_index bounds part + slice_index (own_picks bounds picks part) row ≡ p)

-- each part has its own picks and no other, in their order; the parts and rows name the picks
pub record AreFlatCut (bounds : List ℕ) (picks : List (Option ℕ)) (own ends parts rows : List ℕ)
    : Type 0 where
  pub ends_are : (k : ℕ) → k < length ends → slice_index ends k ≡ own_before bounds picks (k + 1)
  pub each : (k : ℕ) → k < length ends
      → slice_range own (own_before bounds picks k) (own_before bounds picks (k + 1))
      ≡ own_picks bounds picks k
  pub named : (i : ℕ) → i < length picks → IsNamed bounds picks (slice_index_or picks i None)
      (slice_index parts i) (slice_index rows i)

-- the picks are cut; or the call was refused and the lists are as they were
pub record ArePicksCut (places bounds old_own own old_ends ends old_parts parts old_rows rows
    : List ℕ) (status value : ℕ) : Type 0 where
  pub lengths : are_rooms (length places) (length bounds) (length old_own) (length old_ends)
      (length old_parts) (length old_rows) ≡ false → status ≡ 1
  pub unlike : status ≡ 1 → are_rooms (length places) (length bounds) (length old_own)
      (length old_ends) (length old_parts) (length old_rows) ≡ false
  pub no_bounds : status ≡ 6 → AreBounds bounds → ⊥
  pub beyond : status ≡ 4 → AreBounds bounds × IsFirstBeyond places (end_of bounds) value
  pub told : (status ≢ 0) → (status ≢ 1) → (status ≢ 4) → status ≡ 6
  pub untold : status ≢ 4 → value ≡ 0
  pub bounds_are : status ≡ 0 → AreBounds bounds
  pub inside : status ≡ 0 → ArePlaces places (end_of bounds)
  pub cut : status ≡ 0 → AreFlatCut bounds (picks_of places) own ends parts rows
  pub refused : status ≢ 0
      → (own ≡ old_own) × (ends ≡ old_ends) × (parts ≡ old_parts) × (rows ≡ old_rows)
