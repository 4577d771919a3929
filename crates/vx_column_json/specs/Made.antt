-- What constructors answer of parts that a JSON value means.
use Rattle.std.specs.Prelude.{Option, Some}
use Rattle.std.specs.Result.{result_ok}
use Rattle.vx_bits.specs.Results.{ok_unless}
use Rattle.vx_types.specs.declared.error.ColumnError.{ColumnError}
use Rattle.vx_types.specs.declared.error.ColumnError.TheVariants.{NoMemory as ColumnNoMemory}
use Rattle.vx_json.specs.declared.error.DocError.{DocError}
use Rattle.vx_json.specs.declared.error.DocError.TheVariants.{Malformed, NoMemory}
use Rattle.vx_json.specs.Meaning.{◌>>=◌}

-- `NoMemory` stays that
abbrev pub refusal : ColumnError → DocError
refusal ColumnNoMemory = NoMemory
refusal e = Malformed

-- what is made of these parts, where they have no fault
unfoldable pub made : {P C : Type 0} → (P → Option ColumnError) → (P → C) → P → Option C
made fault of parts = do
  sound ← result_ok (ok_unless (fault parts) parts)
  Some (of sound)
