-- Whether the steps before may leave nulls.
use Rattle.std.proofs.Common.{◌≡◌, map, take}
use Rattle.vx_steps.specs.Step.{step_value}
use Rattle.vx_steps.specs.Compose.{takes_nullability}
use Rattle.vx_steps.proofs.composing.takes_nullability.Given as goal

abbrev pub invariant-loop-step : goal.invariant-loop-step
invariant-loop-step l = l.nullability ≡ takes_nullability (take l.step-index (map step_value l.steps))
