-- What calls over strict tables answer.
use Rattle.std.specs.Prelude.{◌≡◌, ℕ, List, Option, Some, None}
use Rattle.vx_arrow_image.specs.Image.{Part}
use Rattle.vx_arrow_strict.specs.declared.flaw.Extra.{Extra}
use Rattle.vx_arrow_strict.specs.declared.flaw.Flaw.{Flaw}
use Rattle.vx_arrow_strict.specs.declared.flaw.Rule.{Rule}
use Rattle.vx_arrow_strict.specs.declared.flaw.Rule.TheVariants as rules
use Rattle.vx_arrow_strict.specs.Strict.{IsFirstFlaw}
use Rattle.vortex_arrow_c.specs.declared.answer.Answer.{Answer}
use Rattle.vortex_arrow_c.specs.Answer.{answer}

abbrev pub rule_code : Rule → ℕ
rule_code rules.NullCount = 17
rule_code rules.Codes = 16
rule_code rules.Map = 18
rule_code rules.Views = 19
rule_code rules.ListViews = 20
rule_code rules.Dense = 21

abbrev pub flaw_answer : Option Flaw → Answer
flaw_answer None = answer 0 0 0
flaw_answer (Some flaw) = answer 1 flaw.node (rule_code flaw.rule)

-- the answer tells the first flaw
pub record IsTold (parts : List Part) (extras : List Extra) (a : Answer) : Type 0 where
  pub flaw : Flaw
  pub first : IsFirstFlaw parts extras flaw
  pub told : a ≡ flaw_answer (Some flaw)
