-- The draws are those that the number makes.
use Rattle.std.proofs.Common.{◌≡◌, ◌+◌, ◌-◌, ◌%◌, length, ap, subst, ◌∙◌, IfOk}
use Rattle.vx_steps.specs.Answer.{answer_rows}
use Rattle.vx_rows.specs.Made.{draws, drawn_answer, made_answer}
use Rattle.vx_rows.proofs.MadeRows.{length-draws}
use Rattle.vx_rows.proofs.made.made_rows.Goals as goal

pub answer_of_draws-requires-clause-long : goal.answer_of_draws-requires-clause-long
answer_of_draws-requires-clause-long c = ap length (c.deref.ensures.value ∙ c.in_ok-draws.ensures) ∙ length-draws _ _

pub returns-clause-answer : goal.returns-clause-answer
unfolding made_answer
returns-clause-answer c =
    subst (λ ds. IfOk c.answer_of_draws.result (λ x. drawn_answer (1000 + c.args.seed % 999001) ds ≡ answer_rows x.dtype x.rows))
    (c.deref.ensures.value ∙ c.in_ok-draws.ensures ∙ ap (draws (1000 + c.args.seed % 999001 + (1000 + c.args.seed % 999001 - 20) + 500)) c.from.ensures) c.answer_of_draws.ensures.answer
