-- What a constructor returns.
use Rattle.std.proofs.Common.{◌≡◌, Option, None, Some, Ok, Err}
use Rattle.vx_bits.specs.Results.{ok_unless}

-- what a constructor makes is its parts
pub made : {T E : Type 0} (fault : Option E) (parts x : T) → Ok x ≡ ok_unless fault parts → x ≡ parts
made None parts x h = cc
made (Some e) parts x h = cc

-- parts without a fault are not refused
pub no_refusal : {T E : Type 0} (fault : Option E) (parts : T) (e : E) → fault ≡ None → Err e ≡ ok_unless fault parts → ⊥
no_refusal None parts e n h = cc
no_refusal (Some f) parts e n h = cc
