-- Laws on what `select` and `select_fused` answer.
use Rattle.std.specs.Prelude.{◌≡◌, ℕ, List, Result, Ok, Err}
use Rattle.vx_model.specs.Column.{Column}
use Rattle.vx_steps.specs.Step.{StepValue}
use Rattle.vx_steps.specs.declared.cause.Cause.{Cause}
use Rattle.vx_steps.specs.declared.cause.SelectError.{SelectError}
use Rattle.vx_steps.specs.declared.cause.SelectError.TheVariants.{Broken}
use Rattle.vx_select.specs.Select.{IsSelection}

-- two that are Ok have the same type and rows, and what one refuses but for `NoMemory` the other
-- refuses in the same way
pub record AreAlike (r s : Result Column SelectError) : Type 0 where
  pub dtype : (a b : Column) → r ≡ Ok a → s ≡ Ok b → a.dtype ≡ b.dtype
  pub rows : (a b : Column) → r ≡ Ok a → s ≡ Ok b → a.rows ≡ b.rows
  pub fault : (k : ℕ) (cause : Cause) → r ≡ Err (Broken k cause) → s ≡ Err (Broken k cause)

-- any two selections of the same rows are alike: neither the policy nor which call it was shows
abbrev pub SelectionsAreAlike : Column → List StepValue → Type 0
SelectionsAreAlike c steps =
    (r s : Result Column SelectError)
    → IsSelection c steps r → IsSelection c steps s → AreAlike r s
