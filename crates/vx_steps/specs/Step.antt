-- A step as a value: what a `Step` stands for.
use Rattle.std.specs.Prelude.{ℕ, List, Bool, true, false}
use Rattle.vx_mask.specs.Mask.{mask_bits}
use Rattle.vx_model.specs.Column.{Column}
use Rattle.vx_pieces.specs.Indices.{IndexValue, index_value}
use Rattle.vx_steps.specs.declared.step.Step.{Step}
use Rattle.vx_steps.specs.declared.step.Step.TheVariants.{Slice, Filter, FilterBy, Take}

pub data StepValue : Type 0 where
  -- the rows from start up to end
  slice_step : ℕ → ℕ → StepValue
  -- the rows at the set bits
  filter_step : List Bool → StepValue
  -- the rows at which a column of bools is true
  filter_by_step : Column → StepValue
  -- the rows that indices name, and a null for each null
  take_step : IndexValue → StepValue

abbrev pub step_value : Step → StepValue
step_value (Slice start end) = slice_step start end
step_value (Filter mask) = filter_step (mask_bits mask)
step_value (FilterBy column) = filter_by_step column
step_value (Take indices) = take_step (index_value indices)

abbrev pub is_slice : StepValue → Bool
is_slice (slice_step start end) = true
is_slice (filter_step bits) = false
is_slice (filter_by_step column) = false
is_slice (take_step indices) = false
