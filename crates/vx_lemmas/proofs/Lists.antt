-- Numbers in a row, mapped lists, slices, and lists with one more item.
use Rattle.std.proofs.Common.{◌≡◌, ℕ, zero, suc, ◌+◌, ◌-◌, ◌<◌, ◌≤◌, List, [], ◌∷◌, ◌++◌, length, map, get_or, take, drop, replicate, refl, sym, ap, ap₂, ◌∙◌, arith, length-append, length-drop}
use Rattle.std.specs.List.{range_with_len, slice_range}
use Rattle.std.proofs.Math.Seq.{take-add}
use Rattle.std.proofs.lemmas.List.{drop-drop, get_or-drop, take_more}

-- numbers in a row, cut in two
pub range_split : (a m k : ℕ) → range_with_len a (m + k) ≡ range_with_len a m ++ range_with_len (a + m) k
range_split a zero k = ap₂ range_with_len (omega arith) (omega arith)
range_split a (suc m) k =
    let n : suc m + k ≡ suc (m + k) = omega arith in
    ap (range_with_len a) n ∙ ap (λ l. a ∷ l) (range_split (a + 1) m k ∙ ap (λ j. range_with_len (a + 1) m ++ range_with_len j k) (omega arith))

-- one more number in a row
pub range_more : (a n : ℕ) → range_with_len a (n + 1) ≡ range_with_len a n ++ (a + n) ∷ []
range_more a n = range_split a n 1

-- a function of one item, again and again
pub map-replicate : {X Y : Type 0} (f : X → Y) (n : ℕ) (x : X) → map f (replicate n x) ≡ replicate n (f x)
map-replicate f zero x = refl
map-replicate f (suc n) x = ap (λ l. f x ∷ l) (map-replicate f n x)

-- functions that agree everywhere give equal lists
pub map_alike : {X Y : Type 0} (f g : X → Y) → ((x : X) → f x ≡ g x) → (xs : List X) → map f xs ≡ map g xs
map_alike f g same [] = refl
map_alike f g same (x ∷ xs) = ap₂ ◌∷◌ (same x) (map_alike f g same xs)

-- a list with one more item is longer by one
pub length_pushed : {X : Type 0} (old new : List X) (item : X) (k : ℕ) → new ≡ old ++ item ∷ [] → length old ≡ k → length new ≡ k + 1
length_pushed old new item k more n = ap length more ∙ length-append old (item ∷ []) ∙ omega (arith, n)

-- a slice from a place to that place has no items
pub slice-none : {X : Type 0} (xs : List X) (s : ℕ) → slice_range xs s s ≡ []
slice-none xs s = let none : s - s ≡ 0 = omega arith in ap (λ n. take n (drop s xs)) none

-- a slice that goes one item further
pub slice-more : {X : Type 0} (xs : List X) (s i : ℕ) (d : X) → s ≤ i → i < length xs → slice_range xs s (i + 1) ≡ slice_range xs s i ++ get_or xs i d ∷ []
slice-more xs s i d h l =
    let many : i + 1 - s ≡ i - s + 1 = omega (arith, h) in
    let at : s + (i - s) ≡ i = omega (arith, h) in
    ap (λ n. take n (drop s xs)) many
    ∙ take_more (drop s xs) (i - s) d (omega (arith, h, l, length-drop s xs))
    ∙ ap (λ x. slice_range xs s i ++ x ∷ []) (get_or-drop s xs (i - s) d ∙ ap (λ k. get_or xs k d) at)

-- a slice, and the slice behind it
pub slice_join : {X : Type 0} (xs : List X) (a b c : ℕ) → a ≤ b → b ≤ c → slice_range xs a b ++ slice_range xs b c ≡ slice_range xs a c
slice_join xs a b c h l =
    let whole : b - a + (c - b) ≡ c - a = omega arith in
    let there : a + (b - a) ≡ b = omega arith in
    ap (λ k. take (b - a) (drop a xs) ++ take (c - b) (drop k xs)) (sym there)
    ∙ ap (λ l. take (b - a) (drop a xs) ++ take (c - b) l) (sym (drop-drop (b - a) a xs))
    ∙ sym (take-add (b - a) (c - b) (drop a xs))
    ∙ ap (λ k. take k (drop a xs)) whole
