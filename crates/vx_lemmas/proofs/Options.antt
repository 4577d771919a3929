-- Options that are equal, and rules that find no fault.
use Rattle.std.proofs.Common.{◌≡◌, Bool, true, false, None, Some, refl}
use Rattle.std.specs.Prelude.{if◌then◌else◌}

-- what is in two equal options
pub some_same : {X : Type 0} (a b : X) → Some a ≡ Some b → a ≡ b
some_same a b h = cc

-- three rules that hold leave no fault
pub no_fault : {X : Type 0} (x y z : X) (a b c : Bool) → a ≡ true → b ≡ true → c ≡ true → (if a then (if b then (if c then None else Some z) else Some y) else Some x) ≡ None
no_fault x y z true true true h k l = refl
no_fault x y z true true false h k l = cc
no_fault x y z true false c h k l = cc
no_fault x y z false b c h k l = cc
