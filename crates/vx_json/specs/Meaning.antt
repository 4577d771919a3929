-- Reading a JSON value by a definition that gives what it means, or none.
use Rattle.std.specs.Prelude.{◌≡◌, List, ◌++◌, Option, Some, None, option_and_then, Result, Ok, Err}
use Rattle.serde_json.specs.Data.{Data}
use Rattle.vx_mask.specs.declared.error.MaskError.{MaskError}
use Rattle.vx_mask.specs.declared.error.MaskError.TheVariants.{NoMemory as OutOfMemory}
use Rattle.vx_json.specs.declared.error.DocError.{DocError}
use Rattle.vx_json.specs.declared.error.DocError.TheVariants.{Malformed, NoMemory}

infixl 10 ◌>>=◌
abbrev pub ◌>>=◌ : {A B : Type 0} → Option A → (A → Option B) → Option B
o >>= f = option_and_then f o

-- a refusal is right where the definition gives nothing; memory may run out anywhere
abbrev pub Fails : {Y : Type 0} → DocError → Option Y → Type 0
Fails Malformed meaning = meaning ≡ None
Fails NoMemory meaning = Unit {0}

-- what a reader answered, seen by view, is what the definition gives; memory may run out instead
abbrev pub Gives : {X Y : Type 0} → (X → Y) → Result X DocError → Option Y → Type 0
Gives view (Ok x) meaning = meaning ≡ Some (view x)
Gives view (Err e) meaning = Fails e meaning

-- no memory is taken: the only error is that the value means nothing
abbrev pub OnlyMalformed : {X : Type 0} → Result X DocError → Type 0
OnlyMalformed (Ok x) = Unit {0}
OnlyMalformed (Err e) = e ≡ Malformed

-- what a reader left in what it changes is what the definition gives
abbrev pub Leaves : {X Y : Type 0} → Result X DocError → Y → Option Y → Type 0
Leaves (Ok x) left meaning = meaning ≡ Some left
Leaves (Err e) left meaning = Fails e meaning

-- what f gives of a value that may be absent, and then the usual one
abbrev pub found_or : {A : Type 0} → A → (Data → Option A) → Option Data → Option A
found_or usual f None = Some usual
found_or usual f (Some d) = f d

-- what was read, in front of what the rest means, where it means something
abbrev pub with_read : {A : Type 0} → List A → Option (List A) → Option (List A)
with_read read rest = rest >>= λ xs. Some (read ++ xs)

-- what a constructor gives that refuses where there is a fault
abbrev pub unless_fault : {A E : Type 0} → Option E → A → Option A
unless_fault None a = Some a
unless_fault (Some e) a = None

-- how a mask's refusal is told
abbrev pub mask_refusal : MaskError → DocError
mask_refusal OutOfMemory = NoMemory
mask_refusal e = Malformed
