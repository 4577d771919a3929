use Rattle.std.proofs.Common.{◌≡◌, map, length}
use Rattle.vx_steps.specs.Step.{step_value}
use Rattle.vx_steps.proofs.Walks.{Reached}
use Rattle.vx_steps.proofs.check.check_steps.Given as goal

-- so many rows are left after the steps before
abbrev pub invariant-loop-step : goal.invariant-loop-step
invariant-loop-step l = Reached l.len (map step_value l.steps) l.step (λ picks. length picks ≡ l.left)
