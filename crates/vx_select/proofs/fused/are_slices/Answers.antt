-- One step more.
use Rattle.std.proofs.Common.{◌∙◌, ◌+◌, map, drop, sym, ap}
use Rattle.std.specs.Prelude.{◌&&◌}
use Rattle.std.specs.List.{list_all}
use Rattle.vx_steps.specs.Step.{is_slice, step_value}
use Rattle.vx_steps.proofs.Walks.{step_at, step_within, steps_end}
use Rattle.vx_select.proofs.Selecting.{slices-next, slices-end}
use Rattle.vx_select.proofs.fused.are_slices.Goals as goal

pub loop-step-preserved : goal.loop-step-preserved
loop-step-preserved c =
    let steps = c.args.steps.now in let k = c.loop-step.step-index in let x = c.step-item in
    let left = list_all is_slice (drop (k + 1) (map step_value steps)) in
    c.loop-step.invariant
    ∙ slices-next (map step_value steps) k (step_value x.result) (step_within steps k c.loop-step-test.true) (step_at steps k x.result c.loop-step-test.true x.is)
    ∙ ap (λ b. b && left) (sym c.is_slice.ensures ∙ c.if-not-is_slice.false)

pub returns-then-not-is_slice : goal.returns-then-not-is_slice
returns-then-not-is_slice c =
    let steps = c.args.steps.now in let k = c.loop-step.step-index in let x = c.step-item in
    let left = list_all is_slice (drop (k + 1) (map step_value steps)) in
    sym (c.loop-step.invariant
    ∙ slices-next (map step_value steps) k (step_value x.result) (step_within steps k c.loop-step-test.true) (step_at steps k x.result c.loop-step-test.true x.is)
    ∙ ap (λ b. b && left) (sym c.is_slice.ensures ∙ c.if-not-is_slice.true))

pub returns : goal.returns
returns c =
    let steps = c.args.steps.now in
    sym (c.loop-step.invariant ∙ slices-end (map step_value steps) c.loop-step.step-index (steps_end steps c.loop-step.step-index c.loop-step-test.false))
