-- Indices that are made of a caller's positions.
use Rattle.std.specs.Prelude.{◌≡◌, ℕ, pos, length, List, map, Option}
use Rattle.std.specs.Option.{option_map}
use Rattle.vx_types.specs.declared.nullability.Nullability.TheVariants.{Nullable}
use Rattle.vx_positions.specs.Positions.{first_bad}
use Rattle.vx_pieces.specs.Indices.{IndexValue, index_fault, index_len, index_nullability, index_picks}
use Rattle.vx_pieces.specs.declared.fault.IndexFault.TheVariants.{OutOfBounds}
use Rattle.vx_steps.specs.Step.{StepValue, slice_step, filter_step, filter_by_step, take_step}

-- the indices name just these positions, none at a null, and the only thing that can be wrong with
-- them is that one isn't below the number of rows
pub record NamePositions (positions : List (Option ℕ)) (indices : IndexValue) : Type 0 where
  pub picks : index_picks indices ≡ positions
  pub len : index_len indices ≡ length positions
  pub nullability : index_nullability indices ≡ Nullable
  pub fault : (n : ℕ) → index_fault indices n
      ≡ option_map OutOfBounds (first_bad n (map (option_map pos) positions))

-- the step is a take by such indices
abbrev pub TakesPositions : List (Option ℕ) → StepValue → Type 0
TakesPositions positions (slice_step start end) = ⊥
TakesPositions positions (filter_step bits) = ⊥
TakesPositions positions (filter_by_step column) = ⊥
TakesPositions positions (take_step indices) = NamePositions positions indices
