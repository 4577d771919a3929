-- What images of steps leave of so many rows, or why nothing.
use Rattle.std.specs.Prelude.{◌≡◌, ℕ, length, false, List, Option, Some, None}
use Rattle.vx_steps.specs.Compose.{takes_nullability}
use Rattle.vx_steps.specs.Walk.{Walk, walk, walk_fault, walk_picks}
use Rattle.vx_steps.specs.declared.cause.Cause.{Cause}
use Rattle.vx_arrow.specs.Image.{StepParts, first_lack, steps_in}
use Rattle.vx_arrow.specs.Written.{has_room, need_of}
use Rattle.vx_arrow.specs.declared.need.Need.{Need}
use Rattle.vx_arrow.specs.declared.refusal.Refusal.{Refusal}
use Rattle.vx_arrow.specs.declared.refusal.Refusal.TheVariants as refusals

-- each image has a meaning
abbrev pub AreMeant : List StepParts → Type 0
AreMeant steps = first_lack 0 steps ≡ None

-- what the steps that they mean leave of n rows
abbrev pub walk_in : ℕ → List StepParts → Walk
walk_in n steps = walk n (steps_in steps)

-- no step is broken, and P holds of the picks
abbrev pub IfPicks : Walk → (List (Option ℕ) → Type 0) → Type 0
IfPicks (walk_fault k cause) P = ⊥
IfPicks (walk_picks picks) P = P picks

-- no step is broken, and the picks need just this
abbrev pub HasNeed : ℕ → List StepParts → Need → Type 0
HasNeed n steps need =
    IfPicks (walk_in n steps)
    (λ picks. need ≡ need_of (length picks) (takes_nullability (steps_in steps)))

-- each image has a meaning, and this is the first step that is broken
pub record IsBroken (n : ℕ) (steps : List StepParts) (k : ℕ) (cause : Cause) : Type 0 where
  pub meant : AreMeant steps
  pub broken : walk_in n steps ≡ walk_fault k cause

-- each image has a meaning, no step is broken, and there is less room than the picks need
pub record IsShort (n : ℕ) (steps : List StepParts) (places valid : ℕ) (need : Need) : Type 0 where
  pub meant : AreMeant steps
  pub needed : HasNeed n steps need
  pub short : has_room need places valid ≡ false

-- a refusal by no room comes only where there is some that could be wanting
abbrev pub IsRefusal : ℕ → List StepParts → (Need → Type 0) → Refusal → Type 0
IsRefusal n steps Short (refusals.Lacking lacking) = first_lack 0 steps ≡ Some lacking
IsRefusal n steps Short (refusals.Broken k cause) = IsBroken n steps k cause
IsRefusal n steps Short (refusals.Room need) = Short need
IsRefusal n steps Short refusals.NoMemory = AreMeant steps

-- it is the first broken step, and no other refusal
abbrev pub IsFault : Walk → Refusal → Type 0
IsFault w (refusals.Lacking lacking) = ⊥
IsFault w (refusals.Broken k cause) = w ≡ walk_fault k cause
IsFault w (refusals.Room need) = ⊥
IsFault w refusals.NoMemory = ⊥

-- an image lacks something, or `NoMemory` where none does
abbrev pub IsUnread : List StepParts → Refusal → Type 0
IsUnread steps (refusals.Lacking lacking) = first_lack 0 steps ≡ Some lacking
IsUnread steps (refusals.Broken k cause) = ⊥
IsUnread steps (refusals.Room need) = ⊥
IsUnread steps refusals.NoMemory = AreMeant steps
