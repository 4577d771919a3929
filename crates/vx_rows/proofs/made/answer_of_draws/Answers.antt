-- What the draws make breaks no rule.
use Rattle.std.proofs.Common.{map, sym, ◌∙◌, arith}
use Rattle.vx_steps.specs.Step.{step_value}
use Rattle.vx_steps.specs.Answer.{answer}
use Rattle.vx_rows.proofs.MadeRows.{never_broken, same_answer}
use Rattle.vx_rows.proofs.made.answer_of_draws.Goals as goal

pub unreachable-requires : goal.unreachable-requires
unreachable-requires c =
    let ds = c.args.draws.now in let n = c.args.len in
    let rows = c.in_ok-rows.rows in let steps = map step_value c.in_ok-steps.steps in
    let same = same_answer n ds rows.dtype rows.rows steps c.in_ok-rows.ensures.dtype c.in_ok-rows.ensures.rows c.in_ok-steps.ensures in
    let broken = c.in-Err-Broken in
    never_broken n ds c.requires.rows c.requires.long (omega arith) (answer rows steps) same broken.field-0 broken.field-0-0 broken.field-0-1 broken.field-0-is broken.ensures.answer

pub returns-in-Ok-clause-answer : goal.returns-in-Ok-clause-answer
returns-in-Ok-clause-answer c =
    let rows = c.in_ok-rows.rows in
    sym (same_answer c.args.len c.args.draws.now rows.dtype rows.rows (map step_value c.in_ok-steps.steps) c.in_ok-rows.ensures.dtype c.in_ok-rows.ensures.rows c.in_ok-steps.ensures)
    ∙ c.in-Ok.ensures.answer
