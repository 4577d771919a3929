-- The errors of a list of steps.
use Rattle.std.specs.Prelude.{ℕ}
use Rattle.vx_steps.specs.declared.cause.Cause.{Cause}
use Rattle.vx_steps.specs.declared.cause.SelectError.{SelectError}
use Rattle.vx_steps.specs.declared.cause.SelectError.TheVariants.{Broken, NoMemory}

-- a fact of the broken step and its cause, where that is the error, else one of `NoMemory`
abbrev pub MatchError : SelectError → (ℕ → Cause → Type 0) → Type 0 → Type 0
MatchError (Broken step cause) P Q = P step cause
MatchError NoMemory P Q = Q
