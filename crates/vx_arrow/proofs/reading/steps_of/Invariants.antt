-- The steps of the images before the one at hand.
use Rattle.std.proofs.Common.{◌≡◌, map, take}
use Rattle.vx_steps.specs.Step.{step_value}
use Rattle.vx_arrow.specs.Image.{step_parts, steps_in}
use Rattle.vx_arrow.proofs.reading.steps_of.Given as goal

abbrev pub invariant-loop-image : goal.invariant-loop-image
invariant-loop-image l = map step_value l.steps.items ≡ steps_in (take l.image-index (map step_parts l.images))
