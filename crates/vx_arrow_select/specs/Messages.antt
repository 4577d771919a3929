-- What refusals say.
use Rattle.std.specs.Prelude.{ℕ, List}
use Rattle.vx_arrow.specs.Messages as steps
use Rattle.vx_arrow_image.specs.Messages as columns
use Rattle.vx_arrow_select.specs.declared.refusal.Refusal.{Refusal}
use Rattle.vx_arrow_select.specs.declared.refusal.Refusal.TheVariants.{Steps, Column}

abbrev pub refusal_text : Refusal → List ℕ
refusal_text (Steps refusal) = steps.refusal_text refusal
refusal_text (Column refusal) = columns.refusal_text refusal
