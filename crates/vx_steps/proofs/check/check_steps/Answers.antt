-- Each step in turn over the rows that the ones before left.
use Rattle.std.proofs.Common.{◌≡◌, map, length, sym, ap, ◌∙◌, None}
use Rattle.vx_steps.specs.Step.{step_value}
use Rattle.vx_steps.specs.Walk.{broken}
use Rattle.vx_steps.proofs.Walks.{reached_start, reached_next, reached_fault, reached_end, length-apply, length-all_positions, step_at, step_within, steps_end, count_at_end}
use Rattle.vx_steps.proofs.check.check_steps.Goals as goal

pub loop-step-init : goal.loop-step-init
loop-step-init c = reached_start c.args.len (map step_value c.args.steps.now) (λ picks. length picks ≡ c.args.len) (length-all_positions c.args.len)

pub returns-in-Some : goal.returns-in-Some
returns-in-Some c =
    let r = c.loop-step.invariant in let x = c.index-steps-step in let steps = c.args.steps.now in let k = c.loop-step.step in
    reached_fault c.args.len (map step_value steps) k (λ picks. length picks ≡ c.loop-step.left) r (step_value x.result) (step_within steps k c.loop-step-test.true) (step_at steps k x.result c.loop-step-test.true x.is)
    c.in-Some.cause (ap (broken (step_value x.result)) r.so ∙ sym c.broken.ensures ∙ c.in-Some.is)

pub loop-step-preserved : goal.loop-step-preserved
loop-step-preserved c =
    let r = c.loop-step.invariant in let x = c.index-steps-step in let steps = c.args.steps.now in let k = c.loop-step.step in
    let sound : broken (step_value x.result) c.loop-step.left ≡ None = sym c.broken.ensures ∙ c.in_default.is in
    reached_next c.args.len (map step_value steps) k (λ picks. length picks ≡ c.loop-step.left) r (step_value x.result) (step_within steps k c.loop-step-test.true) (step_at steps k x.result c.loop-step-test.true x.is)
    (λ picks. length picks ≡ c.rows_left-left.result) (ap (broken (step_value x.result)) r.so ∙ sound) (length-apply None (step_value x.result) r.picks c.loop-step.left r.so sound ∙ sym c.rows_left-left.ensures)

pub returns : goal.returns
returns c =
    let r = c.loop-step.invariant in let steps = c.args.steps.now in
    count_at_end _ r.picks c.loop-step.left (reached_end c.args.len (map step_value steps) c.loop-step.step (λ picks. length picks ≡ c.loop-step.left) r (steps_end steps c.loop-step.step c.loop-step-test.false)) r.so
