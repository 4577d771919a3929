-- What calls answer.
use Rattle.std.specs.Prelude.{◌≡◌, ℕ, Result, Ok, Err}
use Rattle.vx_arrow_image.specs.declared.refusal.Lack.{Lack}
use Rattle.vx_arrow_image.specs.declared.refusal.Lack.TheVariants as lacks
use Rattle.vx_arrow_image.specs.declared.refusal.Refusal.{Refusal}
use Rattle.vx_arrow_image.specs.declared.refusal.Refusal.TheVariants as refusals
use Rattle.vortex_arrow_c.specs.declared.answer.Answer.{Answer}

abbrev pub lack_code : Lack → ℕ
lack_code lacks.Format = 0
lack_code lacks.Tree = 1
lack_code lacks.Rows = 2
lack_code lacks.Valid = 3
lack_code lacks.Children = 4
lack_code lacks.Values = 5
lack_code lacks.Offsets = 6
lack_code lacks.Items = 7
lack_code lacks.Length = 8
lack_code lacks.Sizes = 9
lack_code lacks.Id = 10

abbrev pub answer : ℕ → ℕ → ℕ → Answer
answer status place what = record { status = status; node_or_step = place; what = what }

-- a number that names no format has a status of its own
abbrev pub lack_answer : ℕ → Lack → Answer
lack_answer node lacks.Format = answer 8 node 0
lack_answer node lacks.Tree = answer 1 node 1
lack_answer node lacks.Rows = answer 1 node 2
lack_answer node lacks.Valid = answer 1 node 3
lack_answer node lacks.Children = answer 1 node 4
lack_answer node lacks.Values = answer 1 node 5
lack_answer node lacks.Offsets = answer 1 node 6
lack_answer node lacks.Items = answer 1 node 7
lack_answer node lacks.Length = answer 1 node 8
lack_answer node lacks.Sizes = answer 1 node 9
lack_answer node lacks.Id = answer 1 node 10

abbrev pub refusal_answer : Refusal → Answer
refusal_answer (refusals.NoMeaning node lack) = lack_answer node lack
refusal_answer refusals.Beyond = answer 2 0 0
refusal_answer refusals.NullPick = answer 9 0 0
refusal_answer (refusals.Room node) = answer 3 node 0
refusal_answer (refusals.Overflow node) = answer 4 node 0
refusal_answer refusals.NoMemory = answer 5 0 0

abbrev pub column_answer : Result Unit Refusal → Answer
column_answer (Ok u) = answer 0 0 0
column_answer (Err refusal) = refusal_answer refusal

-- the answer tells a refusal, which comes for its reason alone
pub record IsRefused (Why : Refusal → Type 0) (a : Answer) : Type 0 where
  pub refusal : Refusal
  pub why : Why refusal
  pub told : a ≡ refusal_answer refusal
