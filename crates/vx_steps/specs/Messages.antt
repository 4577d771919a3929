-- What causes and errors say.
use Rattle.std.specs.Prelude.{ℕ, List, ◌++◌, codes, decimal}
use Rattle.std.specs.Fmt.{signed_decimal}
use Rattle.vx_steps.specs.declared.cause.Cause.{Cause}
use Rattle.vx_steps.specs.declared.cause.Cause.TheVariants.{BadRange, BadMask, NotBool}
use Rattle.vx_steps.specs.declared.cause.Cause.TheVariants.{InvalidIndices, BadPieces, OutOfBounds}
use Rattle.vx_steps.specs.declared.cause.SelectError.{SelectError}
use Rattle.vx_steps.specs.declared.cause.SelectError.TheVariants.{Broken, NoMemory}

abbrev pub cause_text : Cause → List ℕ
cause_text (BadRange start end len) =
    codes "BadRange " ++ decimal start ++ codes ".." ++ decimal end ++ codes " of " ++ decimal len
cause_text (BadMask mask_len len) =
    codes "BadMask " ++ decimal mask_len ++ codes " of " ++ decimal len
cause_text NotBool = codes "NotBool"
cause_text InvalidIndices = codes "InvalidIndices"
cause_text BadPieces = codes "BadPieces"
cause_text (OutOfBounds index len) =
    codes "OutOfBounds " ++ signed_decimal index ++ codes " of " ++ decimal len

-- the step, counted from 0, and its cause
abbrev pub broken_text : ℕ → Cause → List ℕ
broken_text step cause = codes "step " ++ decimal step ++ codes ": " ++ cause_text cause

abbrev pub select_error_text : SelectError → List ℕ
select_error_text (Broken step cause) = broken_text step cause
select_error_text NoMemory = codes "out of memory"
