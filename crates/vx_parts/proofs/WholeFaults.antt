-- Refusals of steps over the whole.
use Rattle.std.proofs.Common.{◌≡◌, ℕ, List, length, sym, ap, ◌∙◌, subst}
use Rattle.std.specs.Prelude.{Result, Ok, Err, IsErrAnd}
use Rattle.vx_types.specs.RowValue.{RowValue}
use Rattle.vx_types.specs.TypeTree.{TypeTree}
use Rattle.vx_model.specs.Column.{Column}
use Rattle.vx_steps.specs.Step.{StepValue}
use Rattle.vx_steps.specs.Cause.{MatchError}
use Rattle.vx_steps.specs.Walk.{Walk, walk, walk_fault, walk_picks}
use Rattle.vx_steps.specs.Answer.{Answer, answer_fault, answer_of, answer_of_walk, type_after}
use Rattle.vx_steps.specs.Compose.{IsUnbroken}
use Rattle.vx_steps.specs.declared.cause.SelectError.{SelectError}
use Rattle.vx_steps.specs.declared.cause.SelectError.TheVariants.{Broken, NoMemory}
use Rattle.vx_select.specs.Select.{IsAnswer, IsRows}

-- an error tells why there is no answer
abbrev pub IsNoAnswer : Answer → SelectError → Type 0
IsNoAnswer a e = MatchError e (λ k cause. a ≡ answer_fault k cause) (IsRows a)

pub no_answer : (r : Result Column SelectError) (a : Answer) (P : SelectError → Type 0) → IsErrAnd r P → ((e : SelectError) → P e → IsNoAnswer a e) → IsAnswer r a
no_answer (Ok c) a P h f = absurd h
no_answer (Err e) a P h f = f e h

-- the first broken step
pub fault_told : (t : TypeTree) (rows : List RowValue) (ss : List StepValue) (n : ℕ) (e : SelectError) → n ≡ length rows → MatchError e (λ k cause. walk n ss ≡ walk_fault k cause) ⊥ → IsNoAnswer (answer_of t rows ss) e
fault_told t rows ss n (Broken k cause) count h = ap (answer_of_walk (type_after t ss) rows) (ap (λ (m : ℕ). walk m ss) (sym count) ∙ h)
fault_told t rows ss n NoMemory count h = absurd h

rows_of_walk : (t : TypeTree) (rows : List RowValue) (w : Walk) → IsUnbroken w → IsRows (answer_of_walk t rows w)
rows_of_walk t rows (walk_fault k cause) h = absurd h
rows_of_walk t rows (walk_picks picks) h = tt

-- `NoMemory` where no step is broken
pub memory_told : (t : TypeTree) (rows : List RowValue) (ss : List StepValue) (n : ℕ) → n ≡ length rows → IsUnbroken (walk n ss) → IsNoAnswer (answer_of t rows ss) NoMemory
memory_told t rows ss n count h = rows_of_walk (type_after t ss) rows (walk (length rows) ss) (subst (λ (m : ℕ). IsUnbroken (walk m ss)) count h)
