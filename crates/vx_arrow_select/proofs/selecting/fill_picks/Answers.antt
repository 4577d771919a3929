use Rattle.std.proofs.Common.{length, map, refl}
use Rattle.vx_steps.specs.Compose.{takes_nullability}
use Rattle.vx_arrow.specs.Answer.{walk_in}
use Rattle.vx_arrow.specs.Image.{step_parts, steps_in}
use Rattle.std.proofs.lemmas.Result.{err_from_is_err_and}
use Rattle.vx_arrow_select.proofs.Answers.{filled, never_short}
use Rattle.vx_arrow_select.proofs.selecting.fill_picks.Goals as goal

pub returns-clause-picks : goal.returns-clause-picks
returns-clause-picks c =
    let steps = map step_parts c.args.steps.now in
    filled (walk_in c.args.len steps) (takes_nullability (steps_in steps)) c.args.places.now c.compose.new.places c.args.valid.now c.compose.new.valid
    (record { places = length c.args.places.now; valid = length c.args.valid.now }) c.in_ok-compose.field-0 c.requires c.in_ok-compose.ensures.need refl c.compose.auto.valid c.in_ok-compose.ensures.places c.in_ok-compose.ensures.valid

pub returns-in_err-compose-clause-fault : goal.returns-in_err-compose-clause-fault
returns-in_err-compose-clause-fault c =
    let r = err_from_is_err_and c.from_residual.result c.from_residual.ensures.1 in
    rw (r.1, r.2) (never_short c.args.len (map step_parts c.args.steps.now) (record { places = length c.args.places.now; valid = length c.args.valid.now }) _ c.requires c.in_err-compose.ensures.fault)
