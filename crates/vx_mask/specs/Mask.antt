-- Masks of any kind.
use Rattle.std.specs.Prelude.{◌≡◌, ◌↔◌, ℕ, ◌<◌, ◌≤◌, ◌&&◌, Bool, true, false, nat_lt, List, length, replicate, Option, None, Some, if◌then◌else◌}
use Rattle.std.specs.List.{All, AllAdjacentBelow}
use Rattle.vx_bits.specs.BitBuffer.{PlacedBits, true_count_of}
use Rattle.vx_mask.specs.declared.error.MaskError.{MaskError}
use Rattle.vx_mask.specs.declared.error.MaskError.TheVariants.{Indices, Slices}
use Rattle.vx_mask.specs.declared.mask.Mask.{Mask}
use Rattle.vx_mask.specs.declared.mask.Mask.TheVariants.{AllTrue, AllFalse, Values}
use Rattle.vx_mask.specs.MaskValues.{PartialMask, bits_alone}
use Rattle.vx_mask.specs.Positions.{ascending, bits_with, run_positions, runs_ascend, set_of}

-- a bit for each row, set where the row is selected
abbrev pub mask_bits : Mask → List Bool
mask_bits (AllTrue len) = replicate len true
mask_bits (AllFalse len) = replicate len false
mask_bits (Values mask) = mask.bits.bits

-- the mask as one that selects some rows and not all, if it is
abbrev pub partial_of : Mask → Option PartialMask
partial_of (AllTrue len) = None
partial_of (AllFalse len) = None
partial_of (Values mask) = Some mask

-- the mask where some of its bits are set and not all
abbrev pub if_partial : PartialMask → Option PartialMask
if_partial mask =
    let bits = mask.bits.bits in
    if nat_lt 0 (true_count_of bits) && nat_lt (true_count_of bits) (length bits) then Some mask
    else None

-- bits from the front of a byte on
abbrev pub at_front : List Bool → PlacedBits
at_front bits = record { bits = bits; offset = 0 }

-- the mask of `len` rows that keeps the indices that it is made from
abbrev pub mask_by_indices : ℕ → List ℕ → PartialMask
mask_by_indices len indices =
    record (bits_alone (at_front (bits_with len indices))) { indices = Some indices }

-- the mask of `len` rows that keeps the runs that it is made from
abbrev pub mask_by_slices : ℕ → List (ℕ × ℕ) → PartialMask
mask_by_slices len slices =
    record (bits_alone (at_front (bits_with len (run_positions slices)))) { slices = Some slices }

-- the indices that the mask keeps
abbrev pub indices_in : Mask → Option (List ℕ)
indices_in (AllTrue len) = None
indices_in (AllFalse len) = None
indices_in (Values mask) = mask.indices

-- the slices that the mask keeps
abbrev pub slices_in : Mask → Option (List (ℕ × ℕ))
slices_in (AllTrue len) = None
slices_in (AllFalse len) = None
slices_in (Values mask) = mask.slices

-- the block counts that the mask keeps
abbrev pub blocks_in : Mask → Option (List ℕ)
blocks_in (AllTrue len) = None
blocks_in (AllFalse len) = None
blocks_in (Values mask) = mask.blocks

-- the mask, with what it keeps changed by `more` where it selects some rows and not all
abbrev pub map_partial : (PartialMask → PartialMask) → Mask → Mask
map_partial more (AllTrue len) = AllTrue len
map_partial more (AllFalse len) = AllFalse len
map_partial more (Values mask) = Values (more mask)

-- why the indices are no mask of `len` rows, if they are none
abbrev pub indices_fault : ℕ → List ℕ → Option MaskError
indices_fault len indices = if ascending 0 len indices then None else Some Indices

-- why the runs are no mask of `len` rows, if they are none
abbrev pub slices_fault : ℕ → List (ℕ × ℕ) → Option MaskError
slices_fault len slices = if runs_ascend 0 len slices then None else Some Slices

-- indices have no fault just where each is below `len` and below the next one
abbrev pub FaultlessIndices : ℕ → List ℕ → Type 0
FaultlessIndices len indices =
    (indices_fault len indices ≡ None)
    ↔ (All (λ index. index < len) indices
    × AllAdjacentBelow (λ index next. index < next) indices (length indices))

-- runs have no fault just where each starts before its end, ends at or before `len`, and ends at
-- or before the start of the next one
abbrev pub FaultlessSlices : ℕ → List (ℕ × ℕ) → Type 0
FaultlessSlices len slices =
    (slices_fault len slices ≡ None)
    ↔ (All (λ run. run.0 < run.1) slices
    × All (λ run. run.1 ≤ len) slices
    × AllAdjacentBelow (λ run next. run.1 ≤ next.0) slices (length slices))

-- the mask selects just these of so many rows, and is the partial one where they are some and not
-- all
pub record IsMadeFrom (m : Mask) (rows : ℕ) (places : List ℕ) (mask : PartialMask) : Type 0 where
  pub set : set_of (mask_bits m) ≡ places
  pub bits : mask_bits m ≡ bits_with rows places
  pub len : length (mask_bits m) ≡ rows
  pub kept : partial_of m ≡ if_partial mask
