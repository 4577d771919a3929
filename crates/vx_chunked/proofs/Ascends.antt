-- Positions that ascend.
use Rattle.std.proofs.Common.{◌≡◌, refl, true, ℕ, zero, suc, ◌+◌, ◌-◌, ◌<◌, ◌≤◌, List, [], ◌∷◌, ◌++◌, length, get_or, take, drop, map, sym, ap, ap₂, subst, ◌∙◌, inl, inr, Option, None, Some, slice_get, arith}
use Rattle.std.proofs.lemmas.List.{drop_more, drop_all, map-append, take-append-drop, length-take-le, get_or-take, get_or_default}
use Rattle.std.specs.List.{All, range_with_len}
use Rattle.std.proofs.lemmas.Bool.{cases_lt}
use Rattle.std.proofs.lemmas.List.Elements.{All-head, All-tail}
use Rattle.vx_mask.specs.Positions.{ascending}
use Rattle.vx_mask.proofs.AscendingLists.{ascending_first, index_parts}
use Rattle.vx_chunked.specs.Positions.{AscendFrom, IsInChunk, places_of}

-- what a test of indices says
pub ascend_of : (low high : ℕ) (xs : List ℕ) → ascending low high xs ≡ true → AscendFrom low high xs
ascend_of low high [] h = tt
ascend_of low high (x ∷ xs) h =
    let first = index_parts low high x xs h in
    (first.from, first.within, ascend_of (x + 1) high xs first.then)

pub ascending_of : (low high : ℕ) (xs : List ℕ) → AscendFrom low high xs → ascending low high xs ≡ true
ascending_of low high [] h = refl
ascending_of low high (x ∷ xs) h = ascending_first low high x xs h.0 h.1 (ascending_of (x + 1) high xs h.2)

pub ascend_lower : (a b high : ℕ) (xs : List ℕ) → AscendFrom a high xs → b ≤ a → AscendFrom b high xs
ascend_lower a b high [] h le = tt
ascend_lower a b high (x ∷ xs) h le = (omega (arith, h.0), h.1, h.2)

pub ascend_raise : (low a b : ℕ) (xs : List ℕ) → AscendFrom low a xs → a ≤ b → AscendFrom low b xs
ascend_raise low a b [] h le = tt
ascend_raise low a b (x ∷ xs) h le = (h.0, omega (arith, h.1), ascend_raise (x + 1) a b xs h.2 le)

-- what comes after a front
pub ascend_rest : (mid low high : ℕ) (xs ys : List ℕ) → AscendFrom low high (xs ++ ys) → All (λ p. mid ≤ p) ys → AscendFrom mid high ys
ascend_rest mid low high [] [] h a = tt
ascend_rest mid low high [] (y ∷ ys) h a = (All-head (λ p. mid ≤ p) y ys a, h.1, h.2)
ascend_rest mid low high (x ∷ xs) ys h a = ascend_rest mid (x + 1) high xs ys h.2 a

-- the front, as places from a base on
pub ascend_front : (base low high : ℕ) (places rest : List ℕ) → AscendFrom (base + low) high (map (λ p. base + p) places ++ rest) → All (λ p. p < 1024) places → AscendFrom low 1024 places
ascend_front base low high [] rest h a = tt
ascend_front base low high (p ∷ places) rest h a =
    let next = ascend_lower (base + p + 1) (base + (p + 1)) high (map (λ q. base + q) places ++ rest) h.2 (omega arith) in
    (omega (arith, h.0), All-head (λ q. q < 1024) p places a, ascend_front base (p + 1) high places rest next (All-tail (λ q. q < 1024) p places a))

pub ascend_few : (low high : ℕ) (xs : List ℕ) → low ≤ high → AscendFrom low high xs → length xs + low ≤ high
ascend_few low high [] le h = omega arith
ascend_few low high (x ∷ xs) le h = omega (arith, h.0, h.1, ascend_few (x + 1) high xs (omega (arith, h.1)) h.2)

pub ascend_all : (low high mid : ℕ) (xs : List ℕ) → AscendFrom low high xs → mid ≤ low → All (λ p. mid ≤ p) xs
ascend_all low high mid [] h le k d p = absurd (omega arith)
ascend_all low high mid (x ∷ xs) h le zero d p = omega (arith, h.0)
ascend_all low high mid (x ∷ xs) h le (suc k) d p = ascend_all (x + 1) high mid xs h.2 (omega (arith, h.0)) k d (omega arith)

pub ascend_below : (low high top : ℕ) (xs : List ℕ) → AscendFrom low high xs → high ≤ top → All (λ p. p < top) xs
ascend_below low high top [] h le k d p = absurd (omega arith)
ascend_below low high top (x ∷ xs) h le zero d p = omega (arith, h.1)
ascend_below low high top (x ∷ xs) h le (suc k) d p = ascend_below (x + 1) high top xs h.2 le k d (omega arith)

-- as many as there is room for are all of them
pub ascend_full : (low high : ℕ) (xs : List ℕ) → AscendFrom low high xs → length xs + low ≡ high → xs ≡ range_with_len low (length xs)
ascend_full low high [] h e = refl
ascend_full low high (x ∷ xs) h e =
    let few = ascend_few (x + 1) high xs (omega (arith, h.1)) h.2 in
    let first : x ≡ low = omega (arith, h.0) in
    let next : x + 1 ≡ low + 1 = omega arith in
    ap₂ ◌∷◌ first (ascend_full (x + 1) high xs h.2 (omega arith) ∙ ap (λ n. range_with_len n (length xs)) next)

-- the next of the positions, and those after it
pub ascend_next : (f : ℕ → ℕ) (low high : ℕ) (xs : List ℕ) (k : ℕ) → AscendFrom low high (map f (drop k xs)) → k < length xs → (low ≤ f (get_or xs k 0)) × (f (get_or xs k 0) < high) × AscendFrom (f (get_or xs k 0) + 1) high (map f (drop (k + 1) xs))
ascend_next f low high xs k h p = subst (λ (l : List ℕ). AscendFrom low high (map f l)) (drop_more xs k 0 p) h

-- where the next lies beyond, all do
pub ascend_past : (f : ℕ → ℕ) (low high mid : ℕ) (xs : List ℕ) (k : ℕ) → AscendFrom low high (map f (drop k xs)) → k < length xs → mid ≤ f (get_or xs k 0) → All (λ p. mid ≤ p) (map f (drop k xs))
ascend_past f low high mid xs k h p le =
    let next = ascend_next f low high xs k h p in
    subst (λ (l : List ℕ). All (λ q. mid ≤ q) (map f l)) (sym (drop_more xs k 0 p))
    (ascend_all mid high mid (f (get_or xs k 0) ∷ map f (drop (k + 1) xs)) (le, next.1, next.2) (omega arith))

pub ascend_done : (f : ℕ → ℕ) (mid : ℕ) (xs : List ℕ) (k : ℕ) → length xs ≤ k → All (λ p. mid ≤ p) (map f (drop k xs))
ascend_done f mid xs k p = subst (λ (l : List ℕ). All (λ q. mid ≤ q) (map f l)) (sym (drop_all k xs p)) (λ j d h. absurd (omega arith))

-- no number lies between
pub ascend_none : (low high : ℕ) (xs : List ℕ) → AscendFrom low high xs → high ≤ low → xs ≡ []
ascend_none low high [] h le = refl
ascend_none low high (x ∷ xs) h le = absurd (omega (arith, h.0, h.1))

-- each is as far on as its rank at least
pub ascend_gap : (f : ℕ → ℕ) (low high : ℕ) (xs : List ℕ) (k : ℕ) → AscendFrom low high (map f xs) → k < length xs → low + k ≤ f (get_or xs k 0)
ascend_gap f low high [] k h p = absurd (omega arith)
ascend_gap f low high (x ∷ xs) zero h p = omega (arith, h.0)
ascend_gap f low high (x ∷ xs) (suc k) h p = omega (arith, h.0, ascend_gap f (f x + 1) high xs k h.2 (omega arith))

-- none is above a later one
pub ascend_upto : (f : ℕ → ℕ) (low high : ℕ) (xs : List ℕ) (j k : ℕ) → AscendFrom low high (map f xs) → j ≤ k → k < length xs → f (get_or xs j 0) ≤ f (get_or xs k 0)
ascend_upto f low high [] j k h p q = absurd (omega arith)
ascend_upto f low high (x ∷ xs) zero zero h p q = omega arith
ascend_upto f low high (x ∷ xs) zero (suc k) h p q = omega (arith, ascend_gap f (f x + 1) high xs k h.2 (omega arith))
ascend_upto f low high (x ∷ xs) (suc j) zero h p q = absurd (omega arith)
ascend_upto f low high (x ∷ xs) (suc j) (suc k) h p q = ascend_upto f (f x + 1) high xs j k h.2 (omega arith) (omega arith)

-- those after the first k are further on than those
pub ascend_drop : (f : ℕ → ℕ) (low high : ℕ) (xs : List ℕ) (k : ℕ) → AscendFrom low high (map f xs) → AscendFrom (low + k) high (map f (drop k xs))
ascend_drop f low high xs zero h = ascend_lower low (low + 0) high (map f xs) h (omega arith)
ascend_drop f low high [] (suc k) h = tt
ascend_drop f low high (x ∷ xs) (suc k) h = ascend_lower (f x + 1 + k) (low + suc k) high (map f (drop k xs)) (ascend_drop f (f x + 1) high xs k h.2) (omega (arith, h.0))

abbrev value_of : Option ℕ → ℕ
value_of None = 0
value_of (Some x) = x

-- none lies before the first
pub ascend_first : (f : ℕ → ℕ) (low high mid : ℕ) (xs : List ℕ) (x : ℕ) → Some x ≡ slice_get xs 0 → AscendFrom low high (map f xs) → mid ≤ f x → All (λ p. mid ≤ p) (map f xs)
ascend_first f low high mid [] x e h le = λ k d p. absurd (omega arith)
ascend_first f low high mid (y ∷ xs) x e h le =
    let same : x ≡ y = ap value_of e in
    ascend_all mid high mid (f y ∷ map f xs) (omega (arith, le, ap f same), h.1, h.2) (omega arith)

-- none lies before what so many ascending ones pass
pub ascend_passed : (f : ℕ → ℕ) (low high mid : ℕ) (xs : List ℕ) (n : ℕ) → AscendFrom low high (map f xs) → (n < length xs → mid ≤ low + n) → All (λ p. mid ≤ p) (map f (drop n xs))
ascend_passed f low high mid xs n h le = elim (cases_lt n (length xs)) [
  | inl here ↦ ascend_all (low + n) high mid (map f (drop n xs)) (ascend_drop f low high xs n h) (le here)
  | inr none ↦ ascend_done f mid xs n none
]

-- where the last of the first n lies in a chunk, all of these do
pub all_in_chunk : (f : ℕ → ℕ) (base high : ℕ) (xs : List ℕ) (n : ℕ) → AscendFrom base high (map f xs) → 0 < n → n ≤ length xs → f (get_or xs (n - 1) 0) < base + 1024 → All (λ i. IsInChunk base (f i)) (take n xs)
all_in_chunk f base high xs n h some fits last k d p =
    let within : k < n = omega (arith, length-take-le n xs fits) in
    let here : get_or (take n xs) k d ≡ get_or xs k 0 = get_or-take n xs k d within ∙ get_or_default xs k d 0 (omega arith) in
    let low = ascend_gap f base high xs k h (omega arith) in
    let upto = ascend_upto f base high xs k (n - 1) h (omega arith) (omega arith) in
    subst (λ i. IsInChunk base (f i)) (sym here) (omega arith, omega arith)

-- as places, what lies in a chunk is where it was
pub places_back : (offset base : ℕ) (xs : List ℕ) → All (λ i. IsInChunk base (offset + i)) xs → map (λ i. offset + i) xs ≡ map (λ p. base + p) (places_of offset base xs)
places_back offset base [] h = refl
places_back offset base (x ∷ xs) h =
    let here = h 0 0 (omega arith) in
    ap₂ ◌∷◌ (omega (arith, here.0)) (places_back offset base xs (All-tail (λ i. IsInChunk base (offset + i)) x xs h))

pub places_inside : (offset base : ℕ) (xs : List ℕ) → All (λ i. IsInChunk base (offset + i)) xs → All (λ p. p < 1024) (places_of offset base xs)
places_inside offset base [] h k d p = absurd (omega arith)
places_inside offset base (x ∷ xs) h zero d p = let here = h 0 0 (omega arith) in omega (arith, here.0, here.1)
places_inside offset base (x ∷ xs) h (suc k) d p = places_inside offset base xs (All-tail (λ i. IsInChunk base (offset + i)) x xs h) k d (omega arith)

-- what was taken of positions, as places, and what is left
pub places_taken : (offset base n : ℕ) (all left : List ℕ) → All (λ i. IsInChunk base (offset + i)) (take n all) → drop n all ≡ left → map (λ i. offset + i) all ≡ map (λ p. base + p) (places_of offset base (take n all)) ++ map (λ i. offset + i) left
places_taken offset base n all left h e =
    ap (map (λ i. offset + i)) (sym (take-append-drop n all)) ∙ map-append (λ i. offset + i) (take n all) (drop n all)
    ∙ ap₂ (λ l m. l ++ map (λ i. offset + i) m) (places_back offset base (take n all) h) e
