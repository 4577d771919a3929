-- The answers of constructors.
use Rattle.std.specs.Prelude.{◌≡◌, Option, None, Some, Result, Ok, Err, MatchResult, unwrap_or}

-- the value where there is no fault, and else just that fault
abbrev pub ok_unless : {T E : Type 0} → Option E → T → Result T E
ok_unless None value = Ok value
ok_unless (Some fault) value = Err fault

-- an error is that fault, or `NoMemory` where there is none, and a value comes only where there is
-- none
abbrev pub FailsBy : {T E : Type 0} → Result T E → Option E → E → Type 0
FailsBy result fault no_memory =
    MatchResult result (λ _. fault ≡ None) (λ e. e ≡ unwrap_or fault no_memory)
