-- What a call over several columns answers.
use Rattle.std.specs.Prelude.{◌≡◌, Result, Ok, Err}
use Rattle.vx_arrow_interleave.specs.declared.faults.Refused.{Refused}
use Rattle.vx_arrow_interleave.specs.declared.faults.Refused.TheVariants as why
use Rattle.vortex_arrow_c.specs.Answer.{answer, lack_answer}
use Rattle.vortex_arrow_c.specs.declared.answer.Answer.{Answer}

abbrev pub unjoined_answer : Refused → Answer
unjoined_answer (why.NoMeaning node lack) = lack_answer node lack
unjoined_answer (why.Unlike node) = answer 10 node 0
unjoined_answer why.Beyond = answer 2 0 0
unjoined_answer (why.Room node) = answer 3 node 0
unjoined_answer (why.Overflow node) = answer 4 node 0
unjoined_answer why.NoMemory = answer 5 0 0

abbrev pub interleaving_answer : Result Unit Refused → Answer
interleaving_answer (Ok u) = answer 0 0 0
interleaving_answer (Err refused) = unjoined_answer refused

-- the answer tells a refusal, which comes for its reason alone
pub record IsUnjoined (Why : Refused → Type 0) (a : Answer) : Type 0 where
  pub refused : Refused
  pub why_is : Why refused
  pub told : a ≡ unjoined_answer refused
