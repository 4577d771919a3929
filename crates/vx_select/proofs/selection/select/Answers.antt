-- Each step in turn over the rows that the ones before left.
use Rattle.std.proofs.Common.{rules, ◌≡◌, map, length, sym, ap, ◌∙◌, None, true, false, refl, inl, inr}
use Rattle.vx_types.specs.RowValue.{null}
use Rattle.vx_types.specs.TypeTree.{is_flat}
use Rattle.vx_take.specs.Picks.{at}
use Rattle.vx_steps.specs.Step.{step_value}
use Rattle.vx_steps.specs.Walk.{broken, walk}
use Rattle.vx_steps.specs.Check.{HasCount}
use Rattle.vx_steps.proofs.Walks.{reached_start, reached_next, reached_sound, reached_end, step_at, step_within, steps_end}
use Rattle.vx_select.proofs.Selecting.{at-all_positions, at-apply, length-now, answered, free_step, left_at_start, left_by_step, left_at_end, left_plain, plain_unwrapped}
use Rattle.vx_select.proofs.selection.select.Goals as goal

pub loop-step-init : goal.loop-step-init
loop-step-init c =
    let rows = c.args.column.now.rows in
    record {
      reached = reached_start (length rows) (map step_value c.args.steps.now) (λ picks. at null rows picks ≡ c.whole-current.result.rows) (at-all_positions rows ∙ rw (c.whole-current.ensures ∙ c.share.ensures) refl);
      left = rw (c.whole-current.ensures ∙ c.share.ensures) (left_at_start c.args.column.now (map step_value c.args.steps.now));
    }

pub apply-requires : goal.apply-requires
apply-requires c =
    let rows = c.args.column.now.rows in let steps = c.args.steps.now in let k = c.loop-step.step-index in let x = c.step-item in
    let r = c.loop-step.invariant.reached in
    let count : HasCount (walk (length rows) (map step_value steps)) c.in_ok-check_steps.field-0 = rw (← c.len.ensures) c.in_ok-check_steps.ensures in
    ap (broken (step_value x.result)) (length-now rows r.picks c.loop-step.current.rows r.so)
    ∙ reached_sound (length rows) (map step_value steps) k (λ picks. at null rows picks ≡ c.loop-step.current.rows) r (step_value x.result) (step_within steps k c.loop-step-test.true) (step_at steps k x.result c.loop-step-test.true x.is) c.in_ok-check_steps.field-0 count

pub returns-in_err-current : goal.returns-in_err-current
returns-in_err-current c = record {
  answer = search rules;
  unwrapped = search rules;
  direct = search rules;
  no_memory_wanted = λ free e.
      let steps = c.args.steps.now in let k = c.loop-step.step-index in let x = c.step-item in
      let one = free_step c.args.column.now c.loop-step.current (map step_value steps) k (step_value x.result) free c.loop-step.invariant.left (step_within steps k c.loop-step-test.true) (step_at steps k x.result c.loop-step-test.true x.is) in
      elim one [
        | inl none ↦ let no : false ≡ true = c.in_err-current.ensures.null none in cc
        | inr (slice, plain) ↦ absurd (c.in_err-current.ensures.plain slice plain)
      ];
}

pub loop-step-preserved : goal.loop-step-preserved
loop-step-preserved c =
    let rows = c.args.column.now.rows in let steps = c.args.steps.now in let k = c.loop-step.step-index in let x = c.step-item in
    let v = c.loop-step.invariant in let s = step_value x.result in
    let sound : broken s (length v.reached.picks) ≡ None =
    let count : HasCount (walk (length rows) (map step_value steps)) c.in_ok-check_steps.field-0 = rw (← c.len.ensures) c.in_ok-check_steps.ensures in
    reached_sound (length rows) (map step_value steps) k (λ picks. at null rows picks ≡ c.loop-step.current.rows) v.reached s (step_within steps k c.loop-step-test.true) (step_at steps k x.result c.loop-step-test.true x.is) c.in_ok-check_steps.field-0 count in
    let now = c.in_ok-current.ensures.step in
    record {
      reached = reached_next (length rows) (map step_value steps) k (λ picks. at null rows picks ≡ c.loop-step.current.rows) v.reached s (step_within steps k c.loop-step-test.true) (step_at steps k x.result c.loop-step-test.true x.is)
          (λ picks. at null rows picks ≡ c.in_ok-current.current.rows) sound (at-apply rows s v.reached.picks c.loop-step.current.rows v.reached.so ∙ sym now.rows);
      left = left_by_step c.args.column.now (map step_value steps) k c.loop-step.current c.in_ok-current.current v.left s (step_within steps k c.loop-step-test.true) (step_at steps k x.result c.loop-step-test.true x.is) _ now c.in_ok-current.ensures.plain;
    }

pub returns : goal.returns
returns c =
    let rows = c.args.column.now.rows in let steps = c.args.steps.now in let v = c.loop-step.invariant in
    let whole = c.in_ok-answer.ensures.same in let cut = c.in_ok-rows.ensures.step in
    record {
      answer = answered c.args.column.now (map step_value steps) v.reached.picks c.in_ok-answer.answer.dtype c.in_ok-answer.answer.rows
          (reached_end (length rows) (map step_value steps) c.loop-step.step-index (λ picks. at null rows picks ≡ c.loop-step.current.rows) v.reached (steps_end steps c.loop-step.step-index c.loop-step-test.false))
          (sym v.left.dtype ∙ left_at_end c.loop-step.current.dtype (map step_value steps) c.loop-step.step-index (steps_end steps c.loop-step.step-index c.loop-step-test.false) ∙ sym (whole.dtype ∙ cut.dtype)) (v.reached.so ∙ sym (whole.rows ∙ cut.rows));
      unwrapped = λ flat. c.in_ok-answer.ensures.unwrapped (ap is_flat c.in_ok-rows.ensures.step.dtype ∙ c.loop-step.invariant.left.flat ∙ flat);
      direct = c.in_ok-answer.ensures.direct;
      no_memory_wanted = search rules;
    }

-- what no step took memory for is plain, so neither the cut nor its unwrapped form takes any
pub returns-in_err-rows : goal.returns-in_err-rows
returns-in_err-rows c = record {
  answer = search rules;
  unwrapped = search rules;
  direct = search rules;
  no_memory_wanted = λ free e.
      let no : false ≡ true = c.in_err-rows.ensures.free (left_plain c.args.column.now c.loop-step.current (map step_value c.args.steps.now) c.loop-step.step-index free c.loop-step.invariant.left) in cc;
}

pub returns-in_err-answer : goal.returns-in_err-answer
returns-in_err-answer c = record {
  answer = search rules;
  unwrapped = search rules;
  direct = search rules;
  no_memory_wanted = λ free e.
      let plain = left_plain c.args.column.now c.loop-step.current (map step_value c.args.steps.now) c.loop-step.step-index free c.loop-step.invariant.left in
      let no : false ≡ true = c.in_err-answer.ensures.kept (plain_unwrapped c.in_ok-rows.rows (c.in_ok-rows.ensures.plain plain)) in cc;
}
