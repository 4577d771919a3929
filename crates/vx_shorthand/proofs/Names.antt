-- The first of the values whose name this is, by what is left of both lists.
use Rattle.std.proofs.Common.{◌≡◌, ℕ, zero, suc, ◌<◌, ◌≤◌, true, false, List, [], ◌∷◌, length, map, drop, get_or, refl, ap, arith}
use Rattle.std.specs.Prelude.{Some, None, bytes_eq, min, if◌then◌else◌}
use Rattle.vx_shorthand.specs.Named.{first_named}

module _ {K X : Type 0} (f : K → List ℕ) (name : List ℕ) where
  -- the name at hand
  pub named_here : (ks : List K) (xs : List X) (i : ℕ) (k : K) (x : X) → i < length ks → i < length xs → bytes_eq (f (get_or ks i k)) name ≡ true → first_named name (drop i (map f ks)) (drop i xs) ≡ Some (get_or xs i x)
  named_here [] xs i k x h g e = absurd (omega arith)
  named_here (n ∷ ks) [] i k x h g e = absurd (omega arith)
  named_here (n ∷ ks) (y ∷ xs) zero k x h g e = ap (λ b. if b then Some y else first_named name (map f ks) xs) e
  named_here (n ∷ ks) (y ∷ xs) (suc i) k x h g e = named_here ks xs i k x (omega arith) (omega arith) e

  -- another one
  pub named_later : (ks : List K) (xs : List X) (i : ℕ) (k : K) → i < length ks → i < length xs → bytes_eq (f (get_or ks i k)) name ≡ false → first_named name (drop i (map f ks)) (drop i xs) ≡ first_named name (drop (suc i) (map f ks)) (drop (suc i) xs)
  named_later [] xs i k h g e = absurd (omega arith)
  named_later (n ∷ ks) [] i k h g e = absurd (omega arith)
  named_later (n ∷ ks) (y ∷ xs) zero k h g e = ap (λ b. if b then Some y else first_named name (map f ks) xs) e
  named_later (n ∷ ks) (y ∷ xs) (suc i) k h g e = named_later ks xs i k (omega arith) (omega arith) e

  no_values : (ns : List (List ℕ)) → first_named {X = X} name ns [] ≡ None
  no_values [] = refl
  no_values (n ∷ ns) = refl

  -- no name is left
  pub named_done : (ks : List K) (xs : List X) (i : ℕ) → min (length xs) (length ks) ≤ i → first_named name (drop i (map f ks)) (drop i xs) ≡ None
  named_done [] xs zero h = refl
  named_done [] xs (suc i) h = refl
  named_done (n ∷ ks) [] zero h = refl
  named_done (n ∷ ks) [] (suc i) h = no_values (drop i (map f ks))
  named_done (n ∷ ks) (y ∷ xs) zero h = absurd (omega arith)
  named_done (n ∷ ks) (y ∷ xs) (suc i) h = named_done ks xs i (omega arith)
