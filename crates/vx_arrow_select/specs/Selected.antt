-- What steps leave of a column in memory.
use Rattle.std.specs.Prelude.{◌≡◌, ⊤, ℕ, false, List, Option, Some, None}
use Rattle.vx_types.specs.TypeTree.{TypeTree}
use Rattle.vx_steps.specs.Answer.{answer_of, answer_rows, type_after}
use Rattle.vx_arrow.specs.Answer.{AreMeant, IfPicks, IsBroken, walk_in}
use Rattle.vx_arrow.specs.Image.{StepParts, first_lack, steps_in}
use Rattle.vx_arrow.specs.declared.refusal.Refusal as steps_refused
use Rattle.vx_arrow.specs.declared.refusal.Refusal.TheVariants as step_refusals
use Rattle.vx_arrow_image.specs.declared.image.Need.{Need}
use Rattle.vx_arrow_image.specs.declared.image.Node.{Node}
use Rattle.vx_arrow_image.specs.declared.image.Room.{Room}
use Rattle.vx_arrow_image.specs.declared.refusal.Refusal as columns
use Rattle.vx_arrow_image.specs.Rows as rows
use Rattle.vx_arrow_columns.specs.Answer as columns_told
use Rattle.vx_arrow_columns.specs.Answer.{AreKeptSound}
use Rattle.vx_arrow_image.specs.Image.{column_in, parts_of}
use Rattle.vx_arrow_columns.specs.Bytes.{HaveBytes}
use Rattle.vx_arrow_columns.specs.Picks.{Picking, needs_of}
use Rattle.vx_arrow_columns.specs.Planned.{first_len}
use Rattle.vx_arrow_columns.specs.Read.{rows_read}
use Rattle.vx_arrow_columns.specs.Written.{written}
use Rattle.vx_arrow_select.specs.declared.refusal.Refusal.{Refusal}
use Rattle.vx_arrow_select.specs.declared.refusal.Refusal.TheVariants.{Steps, Column}
use Rattle.vx_arrow_select.specs.Rows.{model_column}

-- the picks are those that the steps leave of n rows
abbrev pub AreComposed : ℕ → List StepParts → Picking → Type 0
AreComposed n steps q = IfPicks (walk_in n steps) (λ picks. q.picks ≡ picks)

-- what each node needs for the rows that the steps leave
pub record AreNeeds (nodes : List Node) (steps : List StepParts) (needs : List Need) : Type 0 where
  pub picks : Picking
  pub composed : AreComposed (first_len nodes) steps picks
  pub needs_are : needs ≡ needs_of (parts_of nodes) picks

-- these rows are the answer to the steps over rows of type t
abbrev pub IsAnswer : TypeTree → List rows.RowValue → List StepParts
    → Option (List rows.RowValue) → Type 0
IsAnswer t xs steps None = ⊥
IsAnswer t xs steps (Some out) =
    answer_of t (model_column xs) (steps_in steps)
    ≡ answer_rows (type_after t (steps_in steps)) (model_column out)

-- the rooms hold the very rows that `select` answers to the steps over those that the table's lists
-- read, of whatever type they are: where what is kept is sound, whatever the steps drop, and where
-- the table means rows
pub record IsSelected (nodes : List Node) (steps : List StepParts) (rooms : List Room)
    : Type 0 where
  pub picks : Picking
  pub composed : AreComposed (first_len nodes) steps picks
  pub read : (t : TypeTree) → AreKeptSound (parts_of nodes) picks
      → IsAnswer t (rows_read (parts_of nodes)) steps
      (column_in (written (parts_of nodes) picks rooms))
  pub answer : (xs : List rows.RowValue) → (t : TypeTree) → column_in (parts_of nodes) ≡ Some xs
      → IsAnswer t xs steps (column_in (written (parts_of nodes) picks rooms))

-- the rooms have the bytes of the rows that the steps leave, and no others changed
pub record AreFilled (nodes : List Node) (steps : List StepParts) (old new : List Room)
    : Type 0 where
  pub picks : Picking
  pub composed : AreComposed (first_len nodes) steps picks
  pub taken : picks.kept ≡ false
  pub bytes : HaveBytes (parts_of nodes) picks old new

-- why the steps leave nothing of n rows
abbrev pub IsStepFault : ℕ → List StepParts → steps_refused.Refusal → Type 0
IsStepFault n steps (step_refusals.Lacking lacking) = first_lack 0 steps ≡ Some lacking
IsStepFault n steps (step_refusals.Broken k cause) = IsBroken n steps k cause
IsStepFault n steps (step_refusals.Room need) = ⊥
IsStepFault n steps step_refusals.NoMemory = AreMeant steps

-- each image of a step has a meaning, none is broken, and this holds of the picks that they leave
pub record ArePicked (nodes : List Node) (steps : List StepParts) (P : Picking → Type 0)
    : Type 0 where
  pub meant : AreMeant steps
  pub picks : Picking
  pub composed : AreComposed (first_len nodes) steps picks
  pub holds : P picks

-- why there are no rows: by the steps, or why the column is refused at the picks that they leave
abbrev pub IsFault : List Node → List StepParts → (Picking → columns.Refusal → Type 0) → Refusal
    → Type 0
IsFault nodes steps R (Steps refusal) = IsStepFault (first_len nodes) steps refusal
IsFault nodes steps R (Column refusal) = ArePicked nodes steps (λ picks. R picks refusal)

-- the needs after an error: what the rows take where a room is too small, and else as they were
abbrev pub AreTold : List Node → List StepParts → List Need → List Need → ℕ → Refusal → Type 0
AreTold nodes steps old new rooms (Steps refusal) = new ≡ old
AreTold nodes steps old new rooms (Column refusal) =
    ArePicked nodes steps
    (λ picks. columns_told.AreTold (parts_of nodes) picks old new rooms refusal)

-- a column is said to have no meaning only where the table means none
abbrev pub IsUnmeant : Option (List rows.RowValue) → Refusal → Type 0
IsUnmeant column (Steps refusal) = ⊤
IsUnmeant column (Column refusal) = columns_told.IsUnmeant column refusal
