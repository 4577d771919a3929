-- One step more.
use Rattle.std.proofs.Common.{map, take, ap, sym, ◌∙◌}
use Rattle.vx_types.specs.Nullability.{either_nullable}
use Rattle.vx_steps.specs.Step.{step_value}
use Rattle.vx_steps.specs.Compose.{takes_nullability}
use Rattle.vx_steps.proofs.Walks.{step_at, step_within}
use Rattle.vx_steps.proofs.ComposedPicks.{takes_nullability-more}
use Rattle.vx_steps.proofs.composing.takes_nullability.Goals as goal

pub loop-step-preserved : goal.loop-step-preserved
loop-step-preserved c =
    let steps = c.args.steps.now in let k = c.loop-step.step-index in let x = c.step-item in let s = step_value x.result in
    c.or-nullability.ensures ∙ ap (λ n. either_nullable n c.nullability.result) c.loop-step.invariant
    ∙ ap (either_nullable (takes_nullability (take k (map step_value steps)))) c.nullability.ensures
    ∙ sym (takes_nullability-more (map step_value steps) k s (step_within steps k c.loop-step-test.true) (step_at steps k x.result c.loop-step-test.true x.is))
