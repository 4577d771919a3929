-- The parts' answers, put together.
use Rattle.std.specs.Prelude.{◌≡◌, ℕ, ◌+◌, ◌<◌, ◌==◌, length, List, [], ◌∷◌, map, Option, Some, None, IfSome, slice_get, if◌then◌else◌}
use Rattle.std.specs.List.{sum}
use Rattle.std.specs.Option.{option_or}
use Rattle.vx_types.specs.RowValue.{RowValue, null}
use Rattle.vx_types.specs.Same.{is_same_type}
use Rattle.vx_types.specs.TypeTree.{TypeTree, also_nullable}
use Rattle.vx_model.specs.Column.{Column}
use Rattle.vx_steps.specs.Answer.{answer_of, answer_rows}
use Rattle.vx_steps.specs.Compose.{IsUnbroken}
use Rattle.vx_steps.specs.Step.{StepValue}
use Rattle.vx_steps.specs.Walk.{walk}
use Rattle.vx_interleave.specs.Places.{interleaved, joined, list_of}
use Rattle.vx_interleave.specs.Sources.{ArePlacesFor, rows_of}
use Rattle.vx_interleave.specs.declared.place.Place.{Place}
use Rattle.vx_parts.specs.Plan.{IsPlan, lens_in, order_in, steps_in}
use Rattle.vx_parts.specs.declared.plan.Plan.{Plan}
use Rattle.vx_parts.specs.declared.error.PutError.{PutError}
use Rattle.vx_parts.specs.declared.error.PutError.TheVariants.{WrongCount, WrongType, WrongLength, WrongOrder, NoMemory}

-- why a column isn't the answer of part k, of this type and of n rows
abbrev pub part_fault : ℕ → TypeTree → ℕ → Column → Option PutError
part_fault k t n c =
    if is_same_type c.dtype t then (if length c.rows == n then None else Some (WrongLength k))
    else Some (WrongType k)

-- the first of the parts from number k on, of so many rows each, whose answer a column isn't
abbrev pub answer_fault : ℕ → TypeTree → List ℕ → List Column → Option PutError
answer_fault k t [] answers = None
answer_fault k t (n ∷ ns) [] = None
answer_fault k t (n ∷ ns) (c ∷ cs) = option_or (part_fault k t n c) (answer_fault (k + 1) t ns cs)

-- that they aren't as many as the parts comes before all
abbrev pub put_fault : TypeTree → List ℕ → List Column → Option PutError
put_fault t lens answers =
    if length answers == length lens then answer_fault 0 t lens answers else Some WrongCount

-- where there is an order, its places are those of rows, or of nulls in a type that has them
abbrev pub IsOrderFor : TypeTree → List Column → Option (List (Option Place)) → Type 0
IsOrderFor t answers None = Unit {0}
IsOrderFor t answers (Some order) = ArePlacesFor t (rows_of answers) order

-- the rows at the places of an order; where there is none, one answer behind another
abbrev pub put_rows : Option (List (Option Place)) → List (List RowValue) → List RowValue
put_rows None answers = joined answers
put_rows (Some order) answers = interleaved null answers order

-- the type that a plan over parts of type t answers
abbrev pub put_type : TypeTree → Plan → TypeTree
put_type t plan = also_nullable t plan.nullability

-- columns that can be put together
abbrev pub AreFit : TypeTree → Plan → List Column → Type 0
AreFit t plan answers =
    (put_fault t (lens_in plan.parts.items) answers ≡ None)
    × IsOrderFor (put_type t plan) answers (order_in plan)

-- why columns can't be
abbrev pub IsPutFault : TypeTree → Plan → List Column → PutError → Type 0
IsPutFault t plan answers WrongCount =
    put_fault t (lens_in plan.parts.items) answers ≡ Some WrongCount
IsPutFault t plan answers (WrongType part) =
    put_fault t (lens_in plan.parts.items) answers ≡ Some (WrongType part)
IsPutFault t plan answers (WrongLength part) =
    put_fault t (lens_in plan.parts.items) answers ≡ Some (WrongLength part)
IsPutFault t plan answers WrongOrder =
    (put_fault t (lens_in plan.parts.items) answers ≡ None)
    × (IsOrderFor (put_type t plan) answers (order_in plan) → ⊥)
IsPutFault t plan answers NoMemory = AreFit t plan answers

-- a column is what rows of type t answer to steps
abbrev pub IsPartAnswer : TypeTree → List RowValue → List StepValue → Column → Type 0
IsPartAnswer t rows steps c = answer_of t rows steps ≡ answer_rows c.dtype c.rows

-- each column is what the part of its number answers to its own steps
pub record ArePartAnswers (t : TypeTree) (parts : List (List RowValue))
    (steps : List (List StepValue)) (answers : List Column) : Type 0 where
  pub many : length answers ≡ length parts
  pub each : (k : ℕ) → k < length parts
      → IfSome (slice_get answers k) (IsPartAnswer t (list_of parts k) (list_of steps k))

-- no part's own steps break a rule over its rows
abbrev pub AreOwnUnbroken : List (List RowValue) → List (List StepValue) → Type 0
AreOwnUnbroken parts steps =
    (k : ℕ) → k < length parts → IsUnbroken (walk (length (list_of parts k)) (list_of steps k))

-- columns are what the parts answer by a plan of these steps, which break no rule over the whole
pub record AreAnswersTo (t : TypeTree) (parts : List (List RowValue)) (steps : List StepValue)
    (plan : Plan) (answers : List Column) : Type 0 where
  pub planned : IsPlan (map length parts) steps plan
  pub unbroken : IsUnbroken (walk (sum (map length parts)) steps)
  pub own : ArePartAnswers t parts (steps_in plan.parts.items) answers
