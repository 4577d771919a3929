-- Lists, item by item.
use Rattle.std.proofs.Common.{◌≡◌, ℕ, zero, suc, ◌+◌, ◌<◌, Bool, true, false, cond, List, [], ◌∷◌, ◌++◌, length, map, take, drop, Option, Some, None, refl, sym, ap, ◌∙◌, subst, arith}
use Rattle.std.specs.Prelude.{find, nat_le, slice_get}
use Rattle.std.specs.List.{All, cons_option, filter_map, position_from}
use Rattle.std.specs.Option.{option_map}
use Rattle.std.proofs.lemmas.Bool.Decides.{nat_tests}
use Rattle.std.proofs.lemmas.List.Elements.{All-cons, filter_map-append, All-tail}
use Rattle.vx_lemmas.proofs.Options.{some_same}

-- ---- the list from item i on, and up to it

pub drop_get : {X : Type 0} (xs : List X) (i : ℕ) (x : X) → slice_get xs i ≡ Some x → drop i xs ≡ x ∷ drop (i + 1) xs
drop_get [] i x h = cc
drop_get (y ∷ xs) zero x h = ap (λ z. z ∷ xs) (some_same y x h)
drop_get (y ∷ xs) (suc i) x h =
    let next : suc i + 1 ≡ suc (i + 1) = omega arith in
    drop_get xs i x h ∙ ap (λ n. x ∷ drop n (y ∷ xs)) (sym next)

pub take_get : {X : Type 0} (xs : List X) (i : ℕ) (x : X) → slice_get xs i ≡ Some x → take (i + 1) xs ≡ take i xs ++ x ∷ []
take_get [] i x h = cc
take_get (y ∷ xs) zero x h = ap (λ z. z ∷ []) (some_same y x h)
take_get (y ∷ xs) (suc i) x h =
    let next : suc i + 1 ≡ suc (i + 1) = omega arith in
    ap (λ n. take n (y ∷ xs)) next ∙ ap (λ l. y ∷ l) (take_get xs i x h)

-- ---- the first item that passes

pub position-more : {X : Type 0} (p : X → Bool) (xs : List X) (i : ℕ) (x : X) → slice_get xs i ≡ Some x → position_from p i (drop i xs) ≡ cond (p x) (Some i) (position_from p (i + 1) (drop (i + 1) xs))
position-more p xs i x h = ap (position_from p i) (drop_get xs i x h)

-- ---- chosen items

pub filter_map-more : {X Y : Type 0} (f : X → Option Y) (xs : List X) (x : X) (y : Y) → f x ≡ Some y → filter_map f (xs ++ x ∷ []) ≡ filter_map f xs ++ y ∷ []
filter_map-more f xs x y h = filter_map-append f xs (x ∷ []) ∙ ap (λ o. filter_map f xs ++ cons_option o []) h

pub slice_get-map : {X Y : Type 0} (f : X → Y) (xs : List X) (i : ℕ) → slice_get (map f xs) i ≡ option_map f (slice_get xs i)
slice_get-map f [] i = refl
slice_get-map f (x ∷ xs) zero = refl
slice_get-map f (x ∷ xs) (suc i) = slice_get-map f xs i

-- an item that is there
pub got : {X : Type 0} (xs : List X) (i : ℕ) → i < length xs → (x : X) × (slice_get xs i ≡ Some x)
got [] i h = absurd (omega arith)
got (x ∷ xs) zero h = (x, refl)
got (x ∷ xs) (suc i) h = got xs i (omega arith)

pub All-get : {X : Type 0} (P : X → Type 0) (xs : List X) (i : ℕ) (x : X) → All P xs → slice_get xs i ≡ Some x → P x
All-get P [] i x h e = cc
All-get P (y ∷ xs) zero x h e = subst P (some_same y x e) (h zero y (omega arith))
All-get P (y ∷ xs) (suc i) x h e = All-get P xs i x (All-tail P y xs h) e

-- where all numbers are those of items, each of them is chosen
pub length-chosen : {X : Type 0} (xs : List X) (numbers : List ℕ) → All (λ i. i < length xs) numbers → length (filter_map (slice_get xs) numbers) ≡ length numbers
length-chosen xs [] h = refl
length-chosen xs (i ∷ numbers) h =
    let here = got xs i (h zero i (omega arith)) in
    ap (λ o. length (cons_option o (filter_map (slice_get xs) numbers))) here.1
    ∙ ap suc (length-chosen xs numbers (All-tail (λ j. j < length xs) i numbers h))

-- and what holds of each item holds of the chosen ones
pub All-chosen : {X : Type 0} (P : X → Type 0) (xs : List X) (numbers : List ℕ) → All P xs → All P (filter_map (slice_get xs) numbers)
All-chosen P xs [] h = λ k d l. absurd (omega arith)
All-chosen {X} P xs (i ∷ numbers) h = by (slice_get xs i) refl (All-chosen P xs numbers h)
  where
    rest : List X
    rest = filter_map (slice_get xs) numbers

    by : (o : Option X) → slice_get xs i ≡ o → All P rest → All P (cons_option o rest)
    by None e later = later
    by (Some x) e later = All-cons P x rest (All-get P xs i x h e) later

-- ---- numbers of items

-- no number is that of no item
pub all_below : (count : ℕ) (numbers : List ℕ) → find (λ i. nat_le count i) numbers ≡ None → All (λ i. i < count) numbers
all_below count [] h = λ k d l. absurd (omega arith)
all_below count (i ∷ numbers) h = by (nat_le count i) refl h (all_below count numbers)
  where
    by : (b : Bool) → nat_le count i ≡ b → cond b (Some i) (find (λ j. nat_le count j) numbers) ≡ None → (find (λ j. nat_le count j) numbers ≡ None → All (λ j. j < count) numbers) → All (λ j. j < count) (i ∷ numbers)
    by true e g rest = absurd (cc)
    by false e g rest = let low : i < count = grind (arith, nat_tests) in All-cons (λ j. j < count) i numbers low (rest g)
