-- What calls over steps answer, and what they write.
use Rattle.std.specs.Prelude.{◌≡◌, ℕ, List}
use Rattle.vx_steps.specs.declared.cause.Cause.{Cause}
use Rattle.vx_steps.specs.declared.cause.Cause.TheVariants as causes
use Rattle.vx_arrow.specs.declared.lacks.Lack.{Lack}
use Rattle.vx_arrow.specs.declared.lacks.Lack.TheVariants as lacks
use Rattle.vx_arrow.specs.declared.need.Need.{Need}
use Rattle.vx_arrow.specs.declared.refusal.Refusal.{Refusal}
use Rattle.vx_arrow.specs.declared.refusal.Refusal.TheVariants as refusals
use Rattle.vx_arrow.specs.Answer.{HasNeed, IfPicks, walk_in}
use Rattle.vx_arrow.specs.Image.{StepParts}
use Rattle.vx_arrow.specs.Written.{ArePlaced, AreShown}
use Rattle.vortex_arrow_c.specs.declared.answer.Answer.{Answer}
use Rattle.vortex_arrow_c.specs.Answer.{answer}

abbrev pub step_lack_code : Lack → ℕ
step_lack_code lacks.Kind = 0
step_lack_code lacks.Type = 1
step_lack_code lacks.Counted = 2
step_lack_code lacks.Values = 3
step_lack_code lacks.Valid = 4
step_lack_code lacks.Lengths = 5
step_lack_code lacks.Multipliers = 6

abbrev pub cause_code : Cause → ℕ
cause_code (causes.BadRange start end len) = 0
cause_code (causes.BadMask mask_len len) = 1
cause_code causes.NotBool = 2
cause_code causes.InvalidIndices = 3
cause_code causes.BadPieces = 4
cause_code (causes.OutOfBounds index len) = 5

abbrev pub step_answer : Refusal → Answer
step_answer (refusals.Lacking lacking) = answer 7 lacking.step (step_lack_code lacking.lack)
step_answer (refusals.Broken step cause) = answer 6 step (cause_code cause)
step_answer (refusals.Room need) = answer 3 0 0
step_answer refusals.NoMemory = answer 5 0 0

-- no step is broken, and the picks that are left are written
pub record AreWritten (n : ℕ) (steps : List StepParts) (places places' valid valid' : List ℕ)
    : Type 0 where
  pub need : Need
  pub needed : HasNeed n steps need
  pub placed : IfPicks (walk_in n steps) (λ picks. ArePlaced picks places places')
  pub shown : IfPicks (walk_in n steps) (λ picks. AreShown need.valid picks valid valid')

-- the answer tells why the steps are refused, which comes for its reason alone
pub record AreRefused (Why : Refusal → Type 0) (a : Answer) : Type 0 where
  pub refusal : Refusal
  pub why : Why refusal
  pub told : a ≡ step_answer refusal
