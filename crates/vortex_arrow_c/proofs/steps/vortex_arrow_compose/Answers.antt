-- Lists that are just as long as they need to be hold the picks.
use Rattle.std.proofs.Common.{length, map, refl}
use Rattle.vx_steps.specs.Compose.{takes_nullability}
use Rattle.vx_arrow.specs.Answer.{walk_in}
use Rattle.vx_arrow.specs.Image.{step_parts, steps_in}
use Rattle.vx_arrow_select.proofs.Answers.{filled}
use Rattle.vortex_arrow_c.proofs.steps.vortex_arrow_compose.Goals as goal

pub returns-in-Ok-clause-composed : goal.returns-in-Ok-clause-composed
returns-in-Ok-clause-composed c done need =
    let steps = map step_parts c.args.steps.now in
    filled (walk_in c.args.len steps) (takes_nullability (steps_in steps)) c.args.places.now c.compose.new.places c.args.valid.now c.compose.new.valid
    (record { places = length c.args.places.now; valid = length c.args.valid.now }) c.in-Ok.field-0 need c.in-Ok.ensures.need refl c.compose.auto.valid c.in-Ok.ensures.places c.in-Ok.ensures.valid
