-- What a call over a column and steps answers.
use Rattle.std.specs.Prelude.{◌≡◌, Result, Ok, Err}
use Rattle.vx_arrow_select.specs.declared.refusal.Refusal.{Refusal}
use Rattle.vx_arrow_select.specs.declared.refusal.Refusal.TheVariants.{Steps, Column}
use Rattle.vortex_arrow_c.specs.declared.answer.Answer.{Answer}
use Rattle.vortex_arrow_c.specs.Answer.{answer, refusal_answer}
use Rattle.vortex_arrow_c.specs.Steps.{step_answer}

abbrev pub fault_answer : Refusal → Answer
fault_answer (Steps refusal) = step_answer refusal
fault_answer (Column refusal) = refusal_answer refusal

abbrev pub selection_answer : Result Unit Refusal → Answer
selection_answer (Ok u) = answer 0 0 0
selection_answer (Err refusal) = fault_answer refusal

-- the answer tells why nothing is selected, which comes for its reason alone
pub record IsUnselected (Why : Refusal → Type 0) (a : Answer) : Type 0 where
  pub refusal : Refusal
  pub why : Why refusal
  pub told : a ≡ fault_answer refusal
