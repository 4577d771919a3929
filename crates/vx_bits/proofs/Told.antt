-- What was told, and then more.
use Rattle.std.proofs.Common.{◌≡◌, refl, List, [], ◌++◌, Option, None, Some, sym, ap}
use Rattle.std.proofs.lemmas.List.{append_assoc, append-nil}
use Rattle.vx_bits.specs.WordReader.{then_told}

-- more told twice is all of it told at once
pub told_more : {X : Type 0} (r : Option (List X)) (xs ys : List X) → then_told (then_told r xs) ys ≡ then_told r (xs ++ ys)
told_more None xs ys = refl
told_more (Some before) xs ys = ap Some (append_assoc before xs ys)

-- nothing more told
pub told_none : {X : Type 0} (r : Option (List X)) → r ≡ then_told r []
told_none None = refl
told_none (Some before) = ap Some (sym (append-nil before))
