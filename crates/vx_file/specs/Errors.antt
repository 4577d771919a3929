-- The errors of a file.
use Rattle.std.specs.Prelude.{◌≡◌, ℕ}
use Rattle.vx_steps.specs.declared.cause.Cause.{Cause}
use Rattle.vx_file.specs.declared.error.FileError.{FileError}
use Rattle.vx_file.specs.declared.error.FileError.TheVariants.{ReadFault, BadHeader, Damaged, Broken, NoMemory}
use Rattle.vx_steps.specs.declared.cause.SelectError.{SelectError}
use Rattle.vx_steps.specs.declared.cause.SelectError.TheVariants as select_errors
use Rattle.vx_steps.specs.Walk.{Walk, walk_fault}
use Rattle.vx_steps.specs.Compose.{IsUnbroken}

-- a fact for the error of opening a file
abbrev pub MatchOpening : FileError → Type 0 → Type 0 → Type 0
MatchOpening ReadFault P Q = P
MatchOpening BadHeader P Q = Q
MatchOpening (Damaged block) P Q = ⊥
MatchOpening (Broken step cause) P Q = ⊥
MatchOpening NoMemory P Q = ⊥

-- a fact for the error of reading its rows
abbrev pub MatchReading : FileError → Type 0 → (ℕ → Type 0) → (ℕ → Cause → Type 0) → Type 0 → Type 0
MatchReading ReadFault F D B N = F
MatchReading BadHeader F D B N = ⊥
MatchReading (Damaged block) F D B N = D block
MatchReading (Broken step cause) F D B N = B step cause
MatchReading NoMemory F D B N = N

-- an error is the first broken step and its cause, or another where no step is broken
abbrev pub IsBrokenBy : Walk → FileError → Type 0
IsBrokenBy w e =
    MatchReading e (IsUnbroken w) (λ _. IsUnbroken w) (λ k cause. w ≡ walk_fault k cause)
    (IsUnbroken w)

-- nothing happened where a step is broken, and else this is so of the error
abbrev pub IfUnbroken : Type 0 → (FileError → Type 0) → FileError → Type 0
IfUnbroken P Q (Broken step cause) = P
IfUnbroken P Q ReadFault = Q ReadFault
IfUnbroken P Q BadHeader = Q BadHeader
IfUnbroken P Q (Damaged block) = Q (Damaged block)
IfUnbroken P Q NoMemory = Q NoMemory

-- the error of steps, as that of a file
abbrev pub of_select : SelectError → FileError
of_select (select_errors.Broken step cause) = Broken step cause
of_select select_errors.NoMemory = NoMemory
