-- What `select` and `select_fused` answer.
use Rattle.std.specs.Prelude.{◌≡◌, ◌≢◌, List, Bool, true, false, ◌&&◌, ◌||◌, Result, Err, MatchResult, IfOk}
use Rattle.std.specs.List.{list_all}
use Rattle.vx_types.specs.TypeTree.{is_flat}
use Rattle.vx_model.specs.Column.{Column}
use Rattle.vx_model.specs.Plain.{is_lazy_layout, is_null_layout, is_plain, is_unwrapped}
use Rattle.vx_steps.specs.Step.{StepValue, is_slice}
use Rattle.vx_steps.specs.Cause.{MatchError}
use Rattle.vx_steps.specs.Answer.{Answer, answer, answer_fault, answer_rows}
use Rattle.vx_steps.specs.declared.cause.SelectError.{SelectError}
use Rattle.vx_steps.specs.declared.cause.SelectError.TheVariants.{NoMemory}

-- no step is broken
abbrev pub IsRows : Answer → Type 0
IsRows (answer_fault k cause) = ⊥
IsRows (answer_rows t rows) = Unit {0}

-- the answer's type and rows where no step is broken, else the first broken step; `NoMemory` only
-- where none is
abbrev pub IsAnswer : Result Column SelectError → Answer → Type 0
IsAnswer r a =
    MatchResult r (λ c. a ≡ answer_rows c.dtype c.rows)
    (λ e. MatchError e (λ k cause. a ≡ answer_fault k cause) (IsRows a))

-- any steps over layout `Null`, and slices alone, or no steps, over a plain column: no step takes
-- memory
abbrev pub needs_no_memory : Column → List StepValue → Bool
needs_no_memory c steps = is_null_layout c.layout || (is_plain c && list_all is_slice steps)

-- r is what `select` and `select_fused` promise of a column and steps
pub record IsSelection (c : Column) (steps : List StepValue) (r : Result Column SelectError)
    : Type 0 where
  pub answer : IsAnswer r (answer c steps)
  pub unwrapped : is_flat c.dtype ≡ true → IfOk r (λ a. is_unwrapped a ≡ true)
  pub direct : IfOk r (λ a. is_lazy_layout a.layout ≡ false)
  pub no_memory_wanted : needs_no_memory c steps ≡ true → r ≢ Err NoMemory
