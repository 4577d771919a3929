-- The answers of constructors that may also want memory.
use Rattle.std.proofs.Common.{◌≡◌, Option, Some, None, refl}
use Rattle.std.specs.Prelude.{unwrap_or, Result, Ok, Err}
use Rattle.std.specs.Result.{result_ok}
use Rattle.vx_bits.specs.Results.{ok_unless}
use Rattle.vx_types.specs.declared.error.ColumnError.{ColumnError}
use Rattle.vx_types.specs.declared.error.ColumnError.TheVariants.{NoMemory as ColumnNoMemory}
use Rattle.vx_json.specs.declared.error.DocError.{DocError}
use Rattle.vx_json.specs.declared.error.DocError.TheVariants.{Malformed, NoMemory}
use Rattle.vx_json.specs.Meaning.{◌>>=◌, Fails, Gives}
use Rattle.vx_json.proofs.TextLists.{nothing_then}
use Rattle.vx_column_json.specs.Made.{refusal, made}

-- any error is right where there is no meaning
fails_none : (A : Type 0) (e : DocError) → Fails {Y = A} e None
fails_none A Malformed = refl
fails_none A NoMemory = tt

module _ {P C : Type 0} (fault : P → Option ColumnError) (of : P → C) (parts : P) where
  by_fault : (o : Option ColumnError) (e : ColumnError) → e ≡ unwrap_or o ColumnNoMemory → Fails (refusal e) (result_ok (ok_unless o parts) >>= λ sound. Some (of sound))
  by_fault None e is = rw is tt
  by_fault (Some f) e is = fails_none _ (refusal e)

  -- the fault, or `NoMemory` where there is none
  pub refused_by : (e : ColumnError) → e ≡ unwrap_or (fault parts) ColumnNoMemory → Fails (refusal e) (made fault of parts)
  unfolding made
  refused_by e is = by_fault (fault parts) e is

  -- what was made
  pub made_by : (d : P) (c : C) → fault parts ≡ None → d ≡ parts → c ≡ of d → made fault of parts ≡ Some c
  unfolding made
  made_by d c none same is = rw (none, is, same) refl

  -- by the answer of a constructor
  pub taken : (d : P) → result_ok (ok_unless (fault parts) parts) ≡ Some d → made fault of parts ≡ Some (of d)
  unfolding made
  taken d is = rw is refl

  pub not_taken : (e : DocError) → Fails e (result_ok (ok_unless (fault parts) parts)) → Fails e (made fault of parts)
  unfolding made
  not_taken e none = nothing_then (λ sound. Some (of sound)) e _ none

  -- what a constructor's answer was handed on as
  pub gives_made : (r : Result P DocError) → Gives (λ p. p) r (result_ok (ok_unless (fault parts) parts)) → Gives of r (made fault of parts)
  unfolding made
  gives_made (Ok d) is = rw is refl
  gives_made (Err e) none = nothing_then (λ sound. Some (of sound)) e _ none
