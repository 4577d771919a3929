-- The steps that are left decide.
use Rattle.std.proofs.Common.{◌≡◌, map, drop}
use Rattle.std.specs.List.{list_all}
use Rattle.vx_steps.specs.Step.{is_slice, step_value}
use Rattle.vx_select.proofs.fused.are_slices.Given as goal

abbrev pub invariant-loop-step : goal.invariant-loop-step
invariant-loop-step l =
    list_all is_slice (map step_value l.steps) ≡ list_all is_slice (drop l.step-index (map step_value l.steps))
