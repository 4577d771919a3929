-- Of the rows before steps those that a page needs, and the masks that are left to go over them.
use Rattle.std.specs.Prelude.{◌≡◌, ℕ, zero, suc, ◌≤◌, Bool, true, false, List, [], ◌∷◌, ◌++◌, length, Option, None, slice_range, take}
use Rattle.vx_bits.specs.BitBuffer.{true_count_of}
use Rattle.vx_mask.specs.Mask.{mask_bits}
use Rattle.vx_mask.specs.declared.mask.Mask.{Mask}
use Rattle.vx_steps.specs.Step.{StepValue, slice_step, filter_step, filter_by_step, take_step}
use Rattle.vx_steps.specs.Walk.{all_positions, apply, walk_from, walk_picks}

abbrev pub is_take : StepValue → Bool
is_take (slice_step start end) = false
is_take (filter_step bits) = false
is_take (filter_by_step column) = false
is_take (take_step indices) = true

-- filters by these masks, the last one first
abbrev pub filters_back : List Mask → List StepValue
filters_back [] = []
filters_back (mask ∷ masks) = filters_back masks ++ filter_step (mask_bits mask) ∷ []

-- the items from `start` up to `end` are there, and of them the masks leave just these
pub record Leaves (start end : ℕ) (masks : List Mask) (items left : List (Option ℕ)) : Type 0 where
  pub ordered : start ≤ end
  pub within : end ≤ length items
  pub walked : (k : ℕ)
      → walk_from k (slice_range items start end) (filters_back masks) ≡ walk_picks left

-- the part of a mask that holds its set positions from number `low` up to `high`, before the other
-- masks
pub record IsPartBefore (bits : List Bool) (low high start end : ℕ) (masks more : List Mask)
    : Type 0 where
  pub ordered : start ≤ end
  pub within : end ≤ length bits
  pub low_count : true_count_of (take start bits) ≡ low
  pub high_count : true_count_of (take end bits) ≡ high
  pub added : filters_back more ≡ filter_step (slice_range bits start end) ∷ filters_back masks

-- what the first k steps leave of a list
abbrev pub left_by : ℕ → List (Option ℕ) → List StepValue → List (Option ℕ)
left_by zero items steps = items
left_by (suc k) items [] = items
left_by (suc k) items (s ∷ steps) = left_by k (apply None s items) steps

-- what all of them leave of n rows
abbrev pub left_of : ℕ → List StepValue → List (Option ℕ)
left_of n steps = left_by (length steps) (all_positions n) steps
