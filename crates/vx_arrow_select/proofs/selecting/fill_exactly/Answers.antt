-- Lists that are just as long as the picks need hold them.
use Rattle.std.proofs.Common.{map}
use Rattle.vx_steps.specs.Compose.{takes_nullability}
use Rattle.vx_arrow.specs.Answer.{walk_in}
use Rattle.vx_arrow.specs.Image.{step_parts, steps_in}
use Rattle.vx_arrow_select.proofs.Answers.{exactly}
use Rattle.vx_arrow_select.proofs.selecting.fill_exactly.Goals as goal

pub returns-then-need-places-clause-picks : goal.returns-then-need-places-clause-picks
returns-then-need-places-clause-picks c exact =
    let steps = map step_parts c.args.steps.now in
    exactly (walk_in c.args.len steps) (takes_nullability (steps_in steps)) c.args.places.now c.compose.new.places c.args.valid.now c.compose.new.valid
    c.in-Ok.need c.if-need-places.true exact c.in-Ok.ensures.need c.compose.auto.places c.compose.auto.valid c.in-Ok.ensures.places c.in-Ok.ensures.valid
