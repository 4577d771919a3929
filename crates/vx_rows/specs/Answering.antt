-- What is answered to a document, and what is asked for it.
use Rattle.std.specs.Prelude.{◌≡◌, Result, MatchResult}
use Rattle.vx_steps.specs.Answer.{Answer, answer_fault, answer_rows}
use Rattle.vx_steps.specs.Cause.{MatchError}
use Rattle.vx_steps.specs.declared.cause.SelectError.{SelectError}
use Rattle.vx_select.specs.Select.{IsRows}
use Rattle.vx_rows.specs.declared.answering.Answered.{Answered}
use Rattle.vx_rows.specs.declared.asked.Asked.{Asked}

-- these rows, and what was asked for them
pub record IsAnsweredBy (p : Answered) (a : Answer) (what : Asked) : Type 0 where
  pub answer : a ≡ answer_rows p.rows.dtype p.rows.rows
  pub asked : p.asked ≡ what

-- the answer's type and rows and what was asked where no step is broken, else the first broken
-- step; `NoMemory` only where none is
abbrev pub Answers : Result Answered SelectError → Answer → Asked → Type 0
Answers r a asked =
    MatchResult r (λ p. IsAnsweredBy p a asked)
    (λ e. MatchError e (λ k cause. a ≡ answer_fault k cause) (IsRows a))
