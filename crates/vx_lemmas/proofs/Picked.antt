-- Items at set bits, parts of a list that are read, and lists of options.
use Rattle.std.proofs.Common.{◌≡◌, ℕ, zero, suc, ◌+◌, ◌≤◌, ◌<◌, Bool, true, false, List, [], ◌∷◌, length, map, take, drop, Some, refl, sym, ap, ap₂, ◌∙◌, arith}
use Rattle.std.specs.List.{items_where_true, range_with_len, slice_get}
use Rattle.std.proofs.lemmas.List.{drop_more}
use Rattle.std.proofs.lemmas.Option.{slice_get-get_or}

-- of no items none is picked
pub picked_nothing : {X : Type 0} (bits : List Bool) → items_where_true {X = X} bits [] ≡ []
picked_nothing [] = refl
picked_nothing (b ∷ bits) = refl

-- bits past the items play no part
pub picked_front : {X : Type 0} (n : ℕ) (bits : List Bool) (xs : List X) → length xs ≤ n → items_where_true (take n bits) xs ≡ items_where_true bits xs
picked_front zero [] xs h = refl
picked_front zero (b ∷ bits) [] h = refl
picked_front zero (b ∷ bits) (x ∷ xs) h = absurd (omega arith)
picked_front (suc n) [] xs h = refl
picked_front (suc n) (b ∷ bits) [] h = refl
picked_front (suc n) (true ∷ bits) (x ∷ xs) h = ap (λ l. x ∷ l) (picked_front n bits xs (omega arith))
picked_front (suc n) (false ∷ bits) (x ∷ xs) h = picked_front n bits xs (omega arith)

slice_get_take : {X : Type 0} (n : ℕ) (xs : List X) (p : ℕ) → p < n → slice_get (take n xs) p ≡ slice_get xs p
slice_get_take zero xs p h = absurd (omega arith)
slice_get_take (suc n) [] p h = refl
slice_get_take (suc n) (x ∷ xs) zero h = refl
slice_get_take (suc n) (x ∷ xs) (suc p) h = slice_get_take n xs p (omega arith)

slice_get_drop : {X : Type 0} (n : ℕ) (xs : List X) (p : ℕ) → slice_get (drop n xs) p ≡ slice_get xs (n + p)
slice_get_drop zero xs p = let e : p ≡ 0 + p = omega arith in ap (slice_get xs) e
slice_get_drop (suc n) [] p = refl
slice_get_drop (suc n) (x ∷ xs) p = let e : suc (n + p) ≡ suc n + p = omega arith in slice_get_drop n xs p ∙ ap (slice_get (x ∷ xs)) e

-- an item of a part of a list
pub part_read : {X : Type 0} (values : List X) (base n p : ℕ) → p < n → slice_get (take n (drop base values)) p ≡ slice_get values (base + p)
part_read values base n p h = slice_get_take n (drop base values) p h ∙ slice_get_drop base values p

-- a part of a list, as places
pub cut_picked : {X : Type 0} (xs : List X) (a n : ℕ) → a + n ≤ length xs → map Some (take n (drop a xs)) ≡ map (slice_get xs) (range_with_len a n)
cut_picked xs a zero h = refl
cut_picked [] a (suc n) h = absurd (omega arith)
cut_picked (y ∷ ys) a (suc n) h =
    let xs = y ∷ ys in
    ap (λ l. map Some (take (suc n) l)) (drop_more xs a y (omega arith))
    ∙ ap₂ ◌∷◌ (sym (slice_get-get_or xs a y (omega arith))) (cut_picked xs (a + 1) n (omega arith))

-- lists that are equal as lists of options are equal
pub same_items : {X : Type 0} (xs ys : List X) → map Some xs ≡ map Some ys → xs ≡ ys
same_items [] [] e = refl
same_items [] (y ∷ ys) e = cc
same_items (x ∷ xs) [] e = cc
same_items (x ∷ xs) (y ∷ ys) e =
    let first : x ≡ y = cc in
    let rest : map Some xs ≡ map Some ys = cc in
    ap₂ ◌∷◌ first (same_items xs ys rest)
