-- What a constructor's answer says of its fault.
use Rattle.std.proofs.Common.{◌≡◌, Option, Some, None, Ok, Err, refl, ap}
use Rattle.vx_bits.specs.Results.{ok_unless}
use Rattle.vx_json.specs.Meaning.{unless_fault}

module _ {A B E : Type 0} (f : A → B) (a : A) where
  -- it gave d, of which f is seen
  pub made : (fault : Option E) (d : A) → ok_unless fault a ≡ Ok d → unless_fault fault (f a) ≡ Some (f d)
  made None d is = let same : a ≡ d = cc in ap (λ x. Some (f x)) same
  made (Some e) d is = absurd cc

  pub refused : (fault : Option E) (e : E) → ok_unless fault a ≡ Err e → unless_fault fault (f a) ≡ None
  refused None e is = absurd cc
  refused (Some g) e is = refl
