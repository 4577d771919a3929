-- The type that steps leave.
use Rattle.std.proofs.Common.{◌≡◌, List, [], ◌∷◌, sym, ◌∙◌}
use Rattle.vx_types.specs.TypeTree.{TypeTree, also_nullable}
use Rattle.vx_model.proofs.Nullabilities.{also_nullable-either, also_nullable-none}
use Rattle.vx_pieces.specs.Indices.{index_nullability}
use Rattle.vx_steps.specs.Answer.{type_after}
use Rattle.vx_steps.specs.Compose.{takes_nullability}
use Rattle.vx_steps.specs.Step.{StepValue, slice_step, filter_step, filter_by_step, take_step}

-- the steps leave the type, nullable also where some take's indices are
pub type_after-takes : (t : TypeTree) (steps : List StepValue) → type_after t steps ≡ also_nullable t (takes_nullability steps)
type_after-takes t [] = sym (also_nullable-none t)
type_after-takes t (slice_step start end ∷ steps) = type_after-takes t steps
type_after-takes t (filter_step bits ∷ steps) = type_after-takes t steps
type_after-takes t (filter_by_step column ∷ steps) = type_after-takes t steps
type_after-takes t (take_step indices ∷ steps) =
    type_after-takes (also_nullable t (index_nullability indices)) steps ∙ also_nullable-either t (index_nullability indices) (takes_nullability steps)
