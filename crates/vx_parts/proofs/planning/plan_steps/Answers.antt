-- Each part's own steps break no rule over its rows.
use Rattle.std.proofs.Common.{ℕ, map, subst}
use Rattle.vx_steps.specs.Step.{step_value}
use Rattle.vx_steps.specs.Walk.{walk}
use Rattle.vx_steps.specs.Compose.{IsUnbroken}
use Rattle.vx_steps.proofs.Unbroken.{counted_walk}
use Rattle.vx_parts.proofs.OwnSound.{own_sound}
use Rattle.vx_parts.proofs.planning.plan_steps.Goals as goal

pub returns-clause-own : goal.returns-clause-own
returns-clause-own c =
    let ss = map step_value c.args.steps.now in
    let unbroken = counted_walk (walk c.in-Some.len ss) c.in_ok-check_steps.field-0 c.in_ok-check_steps.ensures in
    own_sound c.args.lengths.now ss c.in_ok-plan_sound.field-0 c.in_ok-plan_sound.ensures (subst (λ (n : ℕ). IsUnbroken (walk n ss)) c.in-Some.ensures.1 unbroken)
