-- The answer to a column and a list of steps.
use Rattle.std.specs.Prelude.{ℕ, length, List, [], ◌∷◌}
use Rattle.vx_types.specs.TypeTree.{TypeTree, also_nullable}
use Rattle.vx_types.specs.RowValue.{RowValue, null}
use Rattle.vx_model.specs.Column.{Column}
use Rattle.vx_take.specs.Picks.{at}
use Rattle.vx_pieces.specs.Indices.{index_nullability}
use Rattle.vx_steps.specs.Step.{StepValue, slice_step, filter_step, filter_by_step, take_step}
use Rattle.vx_steps.specs.Walk.{Walk, walk_fault, walk_picks, walk}
use Rattle.vx_steps.specs.declared.cause.Cause.{Cause}

-- the type after a step: slices and filters leave it, and a take by a nullable column makes it
-- nullable
abbrev pub type_after_step : TypeTree → StepValue → TypeTree
type_after_step t (slice_step start end) = t
type_after_step t (filter_step bits) = t
type_after_step t (filter_by_step column) = t
type_after_step t (take_step indices) = also_nullable t (index_nullability indices)

abbrev pub type_after : TypeTree → List StepValue → TypeTree
type_after t [] = t
type_after t (s ∷ ss) = type_after (type_after_step t s) ss

pub data Answer : Type 0 where
  -- the first broken step, and its cause
  answer_fault : ℕ → Cause → Answer
  -- the type and the rows
  answer_rows : TypeTree → List RowValue → Answer

abbrev pub answer_of_walk : TypeTree → List RowValue → Walk → Answer
answer_of_walk t rows (walk_fault k cause) = answer_fault k cause
answer_of_walk t rows (walk_picks picks) = answer_rows t (at null rows picks)

-- of a type, rows and steps
abbrev pub answer_of : TypeTree → List RowValue → List StepValue → Answer
answer_of t rows steps = answer_of_walk (type_after t steps) rows (walk (length rows) steps)

abbrev pub answer : Column → List StepValue → Answer
answer c steps = answer_of c.dtype c.rows steps
