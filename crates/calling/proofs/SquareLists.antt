-- The squares that a decoder computes.
use Rattle.std.proofs.Common.{◌≡◌, ℕ, ◌+◌, ◌<◌, ◌≤◌, ◌++◌, List, [], ◌∷◌, length, get_or, take, drop, set, map, Option, Some, sym, ap, ap₂, ◌∙◌, arith}
use Rattle.std.specs.Prelude.{slice_get}
use Rattle.std.specs.List.{range_with_len}
use Rattle.std.proofs.lemmas.List.{length-take-le, length-drop, get_or-take, get_or-drop, take_more_set, map_push, map_more}
use Rattle.std.proofs.lemmas.List.FromFn.{length-map-range_with_len, get_or-map-range_with_len, map-range_with_len_more, fill_by_all}
use Rattle.std.proofs.lemmas.Option.{slice_get_read}
use Rattle.calling.specs.Squares.{square, squares_below}

pub length-squares : (n : ℕ) → length (squares_below n) ≡ n
length-squares n = length-map-range_with_len square 0 n

pub ruleset squares = (length-squares)

-- the square of i
pub get_or-squares : (n i : ℕ) → i < n → get_or (squares_below n) i [] ≡ square i
get_or-squares n i h = get_or-map-range_with_len square 0 n i i [] h (omega arith)

pub square_at : (n i : ℕ) (x : List ℕ) → i < n → x ≡ square i → slice_get (squares_below n) i ≡ Some x
square_at n i x h e =
    slice_get_read (squares_below n) n i x (sym (length-squares n)) h
    (e ∙ sym (get_or-map-range_with_len square 0 n i i x h (omega arith)))

-- m squares from that of `first` on
pub squares_part : (n first m : ℕ) → first + m ≤ n → take m (drop first (squares_below n)) ≡ map (λ k. square (first + k)) (range_with_len 0 m)
squares_part n first m h =
    let rest = drop first (squares_below n) in
    let long : length (take m rest) ≡ m = length-take-le m rest (omega (arith, length-drop first (squares_below n), length-squares n)) in
    fill_by_all (λ k. square (first + k)) (take m rest) m [] long
    (λ k p. get_or-take m rest k [] p ∙ get_or-drop first (squares_below n) k [] ∙ get_or-squares n (first + k) (omega arith))

-- one more square is put
pub put_square : (f : ℕ → List ℕ) (dst : List (List ℕ)) (i : ℕ) (x : List ℕ) → take i dst ≡ map f (range_with_len 0 i) → i < length dst → x ≡ f i → take (i + 1) (set dst i x) ≡ map f (range_with_len 0 (i + 1))
put_square f dst i x h p e =
    take_more_set dst i x p ∙ ap₂ (λ l y. l ++ y ∷ []) h e
    ∙ sym (map-range_with_len_more f 0 i i (omega arith))

-- one more of those at places
pub put_at : {X : Type 0} (f : ℕ → Option X) (dst : List X) (places : List ℕ) (k : ℕ) (x : X) → map Some (take k dst) ≡ map f (take k places) → k < length dst → k < length places → f (get_or places k 0) ≡ Some x → map Some (take (k + 1) (set dst k x)) ≡ map f (take (k + 1) places)
put_at f dst places k x h p q e =
    ap (map Some) (take_more_set dst k x p) ∙ map_push Some (take k dst) x
    ∙ ap₂ (λ l o. l ++ o ∷ []) h (sym e) ∙ sym (map_more f places k 0 q)
