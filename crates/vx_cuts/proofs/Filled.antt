-- Loops that write what a function of the place gives.
use Rattle.std.proofs.Common.{◌≡◌, ℕ, ◌+◌, ◌<◌, List, length, drop, get_or, set, map, sym, ap, ◌∙◌, subst, add-zero, arith}
use Rattle.std.specs.List.{range_with_len}
use Rattle.std.proofs.lemmas.List.{get_or-drop}
use Rattle.std.proofs.lemmas.List.FromFn.{fill_by_all}
use Rattle.std.proofs.lemmas.List.Edits.{fill_by_more}

-- one place more
pub filled_more : {X : Type 0} (f : ℕ → X) (xs : List X) (i : ℕ) (y d : X) → i < length xs → y ≡ f i → ((k : ℕ) → k < i → get_or xs k d ≡ f k) → (k : ℕ) → k < i + 1 → get_or (set xs i y) k d ≡ f k
filled_more f xs i y d h e so k below = subst (λ x. get_or (set xs i x) k d ≡ f k) (sym e) (fill_by_more f xs i d h so k below)

-- all of them
pub filled_all : {X : Type 0} (f : ℕ → X) (xs : List X) (n i : ℕ) (d : X) → length xs ≡ n → n ≡ i → ((k : ℕ) → k < i → get_or xs k d ≡ f k) → xs ≡ map f (range_with_len 0 n)
filled_all f xs n i d long e so = fill_by_all f xs n d long (λ k h. so k (omega arith))

-- an item of lists that are alike from it on
pub same_head : (xs ys : List ℕ) (k : ℕ) → drop k xs ≡ drop k ys → get_or xs k 0 ≡ get_or ys k 0
same_head xs ys k e =
    let at = λ (l : List ℕ). get_or-drop k l 0 0 ∙ ap (λ n. get_or l n 0) (add-zero k) in
    sym (at xs) ∙ ap (λ l. get_or l 0 0) e ∙ at ys
