-- The images before the one at hand lack nothing.
use Rattle.std.proofs.Common.{◌≡◌, map, drop}
use Rattle.vx_arrow.specs.Image.{first_lack, step_parts}
use Rattle.vx_arrow.proofs.lacks.first_lack.Given as goal

abbrev pub invariant-loop-step : goal.invariant-loop-step
invariant-loop-step l = first_lack 0 (map step_parts l.steps) ≡ first_lack l.step (drop l.step (map step_parts l.steps))
