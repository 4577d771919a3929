-- The step at hand, and those behind it.
use Rattle.std.proofs.Common.{map, sym, ◌∙◌}
use Rattle.vx_steps.specs.Step.{step_value}
use Rattle.vx_steps.proofs.Walks.{step_at, step_within}
use Rattle.vx_paging.proofs.Needing.{any_here, any_next}
use Rattle.vx_paging.proofs.needed.has_take.Goals as goal

pub returns-then-is_take : goal.returns-then-is_take
returns-then-is_take c =
    let steps = c.args.steps.now in let k = c.loop-step.step-index in let x = c.step-item in let h = c.loop-step-test.true in
    any_here (map step_value steps) k (step_value x.result) (step_within steps k h) (step_at steps k x.result h x.is) c.loop-step.invariant (sym c.is_take.ensures ∙ c.if-is_take.true)

pub loop-step-preserved : goal.loop-step-preserved
loop-step-preserved c =
    let steps = c.args.steps.now in let k = c.loop-step.step-index in let x = c.step-item in let h = c.loop-step-test.true in
    any_next (map step_value steps) k (step_value x.result) (step_within steps k h) (step_at steps k x.result h x.is) c.loop-step.invariant (sym c.is_take.ensures ∙ c.if-is_take.false)
