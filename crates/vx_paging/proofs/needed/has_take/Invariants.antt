-- The steps from this one on decide.
use Rattle.std.proofs.Common.{◌≡◌, drop, map}
use Rattle.std.specs.List.{list_any}
use Rattle.vx_steps.specs.Step.{step_value}
use Rattle.vx_paging.specs.Needed.{is_take}
use Rattle.vx_paging.proofs.needed.has_take.Given as goal

abbrev pub invariant-loop-step : goal.invariant-loop-step
invariant-loop-step l = list_any is_take (drop l.step-index (map step_value l.steps)) ≡ list_any is_take (map step_value l.steps)
