-- What holds before each step.
use Rattle.std.proofs.Common.{◌≡◌, map}
use Rattle.vx_types.specs.declared.nullability.Nullability.TheVariants.{NonNullable}
use Rattle.vx_positions.specs.Positions.{AllThere}
use Rattle.vx_steps.specs.Step.{step_value}
use Rattle.vx_steps.specs.Compose.{bound_of, picks_in, takes_nullability}
use Rattle.vx_steps.proofs.Walks.{Reached}
use Rattle.vx_steps.proofs.composing.composed_by.Given as goal

-- the picks are those of the steps before, and none is a null where no step leaves one
abbrev pub invariant-loop-step : goal.invariant-loop-step
invariant-loop-step l = record {
  reached : Reached l.len (map step_value l.steps) l.step-index (λ picks. picks ≡ picks_in l.composed);
  bound : bound_of l.composed ≡ l.len;
  there : takes_nullability (map step_value l.steps) ≡ NonNullable → AllThere (picks_in l.composed);
}
