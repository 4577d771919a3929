-- What a test says of all items it says of those that are kept.
use Rattle.std.proofs.Common.{◌≡◌, ℕ, zero, suc, ◌-◌, Bool, true, false, List, [], ◌∷◌, get_or, take, drop, slice_range, refl}
use Rattle.std.specs.Cmp.{first_so, second_so}
use Rattle.std.specs.List.{items_where_true, list_all}
use Rattle.std.proofs.lemmas.Bool.{and_from}

module _ {X : Type 0} (p : X → Bool) where
  -- of those behind the first n
  pub all-drop : (n : ℕ) (xs : List X) → list_all p xs ≡ true → list_all p (drop n xs) ≡ true
  all-drop zero xs h = h
  all-drop (suc n) [] h = refl
  all-drop (suc n) (x ∷ xs) h = all-drop n xs (second_so (p x) _ h)

  -- of the first n
  pub all-take : (n : ℕ) (xs : List X) → list_all p xs ≡ true → list_all p (take n xs) ≡ true
  all-take zero xs h = refl
  all-take (suc n) [] h = refl
  all-take (suc n) (x ∷ xs) h = and_from (p x) _ (first_so (p x) _ h) (all-take n xs (second_so (p x) _ h))

  -- of a slice
  pub all-slice : (xs : List X) (s e : ℕ) → list_all p xs ≡ true → list_all p (slice_range xs s e) ≡ true
  all-slice xs s e h = all-take (e - s) (drop s xs) (all-drop s xs h)

  -- of those at set bits
  pub all-kept : (bits : List Bool) (xs : List X) → list_all p xs ≡ true → list_all p (items_where_true bits xs) ≡ true
  all-kept [] xs h = refl
  all-kept (b ∷ bits) [] h = refl
  all-kept (true ∷ bits) (x ∷ xs) h = and_from (p x) _ (first_so (p x) _ h) (all-kept bits xs (second_so (p x) _ h))
  all-kept (false ∷ bits) (x ∷ xs) h = all-kept bits xs (second_so (p x) _ h)

  -- of one, or of what is read past the end
  pub all-get : (fill : X) (xs : List X) (i : ℕ) → p fill ≡ true → list_all p xs ≡ true → p (get_or xs i fill) ≡ true
  all-get fill [] i f h = f
  all-get fill (x ∷ xs) zero f h = first_so (p x) _ h
  all-get fill (x ∷ xs) (suc i) f h = all-get fill xs i f (second_so (p x) _ h)
