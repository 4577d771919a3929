-- What the check of the steps says of the answer over values behind a decoder.
use Rattle.std.proofs.Common.{◌≡◌, ℕ, List, Ok, Err, Result, length, sym, ap, ◌∙◌, subst}
use Rattle.std.specs.Prelude.{IsErrAnd}
use Rattle.vx_types.specs.TypeTree.{TypeTree}
use Rattle.vx_types.specs.RowValue.{RowValue}
use Rattle.vx_steps.specs.Step.{StepValue}
use Rattle.vx_steps.specs.Walk.{Walk, walk_fault, walk_picks, walk}
use Rattle.vx_steps.specs.Check.{HasCount}
use Rattle.vx_steps.specs.Cause.{MatchError}
use Rattle.vx_steps.specs.Answer.{Answer, answer_fault, answer_of, answer_of_walk, type_after}
use Rattle.vx_steps.specs.declared.cause.SelectError.{SelectError}
use Rattle.vx_steps.specs.declared.cause.SelectError.TheVariants.{Broken, NoMemory}
use Rattle.vx_select.specs.Select.{IsRows}
use Rattle.vx_rows.specs.Answering.{Answers}
use Rattle.vx_rows.specs.declared.answering.Answered.{Answered}
use Rattle.vx_rows.specs.declared.asked.Asked.{Asked}

-- an answer that is this error
pub answers_err : (r : Result Answered SelectError) (a : Answer) (asked : Asked) (e : SelectError) → IsErrAnd r (λ x. x ≡ e) → MatchError e (λ k cause. a ≡ answer_fault k cause) (IsRows a) → Answers r a asked
answers_err (Ok p) a asked e h m = absurd h
answers_err (Err x) a asked e h m =
    let P : SelectError → Type 0 = λ y. MatchError y (λ k cause. a ≡ answer_fault k cause) (IsRows a) in
    subst P (sym h) m

module _ (t : TypeTree) (rows : List RowValue) (steps : List StepValue) (n : ℕ) (long : length rows ≡ n) where
  by_count : answer_of t rows steps ≡ answer_of_walk (type_after t steps) rows (walk n steps)
  by_count = ap (λ (m : ℕ). answer_of_walk (type_after t steps) rows (walk m steps)) long

  -- the broken step that the check found
  pub found_broken : (e : SelectError) → MatchError e (λ k cause. walk n steps ≡ walk_fault k cause) ⊥ → MatchError e (λ k cause. answer_of t rows steps ≡ answer_fault k cause) (IsRows (answer_of t rows steps))
  found_broken (Broken k cause) h = by_count ∙ ap (answer_of_walk (type_after t steps) rows) h
  found_broken NoMemory h = absurd h

  -- the check found none
  pub found_sound : (count : ℕ) → HasCount (walk n steps) count → IsRows (answer_of t rows steps)
  found_sound count h = subst IsRows (sym by_count) (rows_of (walk n steps) h)
    where
      rows_of : (w : Walk) → HasCount w count → IsRows (answer_of_walk (type_after t steps) rows w)
      rows_of (walk_fault k cause) q = absurd q
      rows_of (walk_picks picks) q = tt
