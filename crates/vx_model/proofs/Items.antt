-- The items at set bits, and cuts of lists.
use Rattle.std.proofs.Common.{◌≡◌, ℕ, zero, suc, ◌-◌, ◌≤◌, Bool, true, false, List, [], ◌∷◌, map, length, take, drop, slice_range, refl, sym, ap, ◌∙◌, arith, length-drop, length-take}
use Rattle.std.specs.Prelude.{replicate}
use Rattle.std.specs.List.{items_where_true}
use Rattle.std.proofs.lemmas.List.{take-map, drop-map}
use Rattle.vx_bits.specs.BitBuffer.{true_count_of}
use Rattle.vx_mask.proofs.PositionLists.{true_count_of-cons}
use Rattle.vx_mask.proofs.RankedItems.{length-items_where_true}

pub map-items_where_true : {X Y : Type 0} (f : X → Y) (bits : List Bool) (xs : List X) → map f (items_where_true bits xs) ≡ items_where_true bits (map f xs)
map-items_where_true f [] xs = refl
map-items_where_true f (b ∷ bits) [] = refl
map-items_where_true f (true ∷ bits) (x ∷ xs) = ap (λ l. f x ∷ l) (map-items_where_true f bits xs)
map-items_where_true f (false ∷ bits) (x ∷ xs) = map-items_where_true f bits xs

pub map-slice_range : {X Y : Type 0} (f : X → Y) (xs : List X) (s e : ℕ) → map f (slice_range xs s e) ≡ slice_range (map f xs) s e
map-slice_range f xs s e = sym (take-map f (e - s) (drop s xs)) ∙ ap (take (e - s)) (sym (drop-map f s xs))

-- all items are kept
pub items_where_true-all : {X : Type 0} (n : ℕ) (xs : List X) → n ≡ length xs → xs ≡ items_where_true (replicate n true) xs
items_where_true-all zero [] h = refl
items_where_true-all zero (x ∷ xs) h = absurd (omega arith)
items_where_true-all (suc n) [] h = absurd (omega arith)
items_where_true-all (suc n) (x ∷ xs) h = ap (λ l. x ∷ l) (items_where_true-all n xs (omega arith))

-- none is
pub items_where_true-none : {X : Type 0} (n : ℕ) (xs : List X) → [] ≡ items_where_true (replicate n false) xs
items_where_true-none zero xs = refl
items_where_true-none (suc n) [] = refl
items_where_true-none (suc n) (x ∷ xs) = items_where_true-none n xs

-- of equal items so many are kept
pub items_where_true-replicate : {X : Type 0} (bits : List Bool) (x : X) → items_where_true bits (replicate (length bits) x) ≡ replicate (true_count_of bits) x
items_where_true-replicate [] x = refl
items_where_true-replicate (true ∷ bits) x =
    let more : suc (true_count_of bits) ≡ true_count_of (true ∷ bits) = omega (arith, true_count_of-cons true bits) in
    ap (λ l. x ∷ l) (items_where_true-replicate bits x) ∙ ap (λ n. replicate n x) more
items_where_true-replicate (false ∷ bits) x =
    let same : true_count_of bits ≡ true_count_of (false ∷ bits) = omega (arith, true_count_of-cons false bits) in
    items_where_true-replicate bits x ∙ ap (λ n. replicate n x) same

pub length-slice_range : {X : Type 0} (xs : List X) (s e : ℕ) → s ≤ e → e ≤ length xs → length (slice_range xs s e) ≡ e - s
length-slice_range xs s e h k = omega (arith, length-take (e - s) (drop s xs), length-drop s xs)

-- how many items a filter keeps
pub ruleset kept_items = (length-items_where_true)
