-- What was read of each step tells the steps, and what their masks keep.
use Rattle.std.proofs.lemmas.Result.{err_from_is_err_and}
use Rattle.serde_json.specs.View.{view, items_view}
use Rattle.vx_document.proofs.SeenSteps.{read-steps, read-kept, steps-fail, kept-fail}
use Rattle.vx_document.proofs.steps.steps_of.Goals as goal

pub returns-clause-steps : goal.returns-clause-steps
returns-clause-steps c =
    rw c.from_vec.ensures (read-steps (view c.args.value.now) (items_view c.in_ok-items_in.field-0.now.items) c.in_ok-steps.steps.items c.in_ok-items_in.ensures.value c.in_ok-steps.ensures)

pub returns-clause-kept : goal.returns-clause-kept
returns-clause-kept c =
    rw c.from_vec.ensures (read-kept (view c.args.value.now) (items_view c.in_ok-items_in.field-0.now.items) c.in_ok-steps.steps.items c.in_ok-items_in.ensures.value c.in_ok-steps.ensures)

pub returns-in_err-steps-clause-steps : goal.returns-in_err-steps-clause-steps
returns-in_err-steps-clause-steps c =
    let r = c.from_residual-in_err-steps in
    let p = err_from_is_err_and r.result r.ensures.1 in
    rw (p.1, p.2) (steps-fail (view c.args.value.now) c.in_err-steps.field-0.0 (rw c.in_ok-items_in.ensures.value c.in_err-steps.ensures))

pub returns-in_err-steps-clause-kept : goal.returns-in_err-steps-clause-kept
returns-in_err-steps-clause-kept c =
    let r = c.from_residual-in_err-steps in
    let p = err_from_is_err_and r.result r.ensures.1 in
    rw (p.1, p.2) (kept-fail (view c.args.value.now) c.in_err-steps.field-0.0 (rw c.in_ok-items_in.ensures.value c.in_err-steps.ensures))
