-- The numbers of one piece.
use Rattle.std.proofs.Common.{◌≡◌, ℕ, zero, suc, ◌+◌, ◌-◌, ◌*◌, ◌/◌, ◌<◌, ◌≤◌, Bool, true, false, cond, List, [], ◌∷◌, ◌++◌, map, length, length-append, Option, None, Some, refl, sym, ap, ◌∙◌, subst, arith}
use Rattle.std.specs.Prelude.{nat_le, slice_get}
use Rattle.std.specs.List.{range_with_len}
use Rattle.std.proofs.lemmas.Bool.Decides.{nat_tests}
use Rattle.std.proofs.Math.Nat.{add-zero, sub-zero, mul-le-mul_right, div-mul-le_self, lt-div-mul-add}
use Rattle.std.proofs.lemmas.List.{map_push, get_or_append_left}
use Rattle.std.proofs.lemmas.Option.{slice_get-get_or}
use Rattle.std.proofs.lemmas.List.FromFn.{map-range_with_len_more, length-map-range_with_len, get_or-map-range_with_len}
use Rattle.vx_pieces.specs.Pieces.{first_from, piece_number, piece_numbers}
use Rattle.vx_pieces.specs.declared.piece.Piece.{Piece}
use Rattle.std.proofs.lemmas.Bool.{le-leb}

pub lt_fails : (a b : ℕ) → b < a → nat_le a b ≡ false
lt_fails a b h = grind (arith, nat_tests)

module _ (n : ℕ) (f : ℕ → ℕ) where
  -- the first k numbers are below n, and the next one isn't
  pub first_at : (a k len : ℕ) → k < len → ((j : ℕ) → j < k → f (a + j) < n) → n ≤ f (a + k) → first_from n (map f (range_with_len a len)) ≡ Some (f (a + k))
  first_at a k zero h below reaches = absurd (omega arith)
  first_at a zero (suc len) h below reaches =
      let same : f (a + 0) ≡ f a = ap f (add-zero a) in
      let test : nat_le n (f a) ≡ true = le-leb n (f a) (subst (λ x. n ≤ x) same reaches) in
      rw test (ap (λ x. Some x) (sym same))
  first_at a (suc k) (suc len) h below reaches =
      let test : nat_le n (f a) ≡ false = lt_fails n (f a) (subst (λ i. f i < n) (add-zero a) (below 0 (omega arith))) in
      rw test
      (first_at (a + 1) k len (omega arith) (λ j l. let e : a + suc j ≡ a + 1 + j = omega arith in subst (λ i. f i < n) e (below (suc j) (omega arith)))
      (let e : a + suc k ≡ a + 1 + k = omega arith in subst (λ i. n ≤ f i) e reaches)
      ∙ (let e : a + 1 + k ≡ a + suc k = omega arith in ap (λ i. Some (f i)) e))

  -- all of them are
  pub first_none : (a len : ℕ) → ((j : ℕ) → j < len → f (a + j) < n) → first_from n (map f (range_with_len a len)) ≡ None
  first_none a zero below = refl
  first_none a (suc len) below =
      let test : nat_le n (f a) ≡ false = lt_fails n (f a) (subst (λ i. f i < n) (add-zero a) (below 0 (omega arith))) in
      rw test (first_none (a + 1) len (λ j l. let e : a + suc j ≡ a + 1 + j = omega arith in subst (λ i. f i < n) e (below (suc j) (omega arith))))

module _ (p : Piece) (n : ℕ) (before : p.start < n) where
  -- the numbers stay where they are
  pub first_still : p.multiplier ≡ 0 → first_from n (piece_numbers p) ≡ None
  first_still still = first_none n (λ j. p.start + j * p.multiplier) 0 p.length (λ j h. rw still (omega arith))

  module _ (moves : 0 < p.multiplier) where
    below_reach : (j : ℕ) → j < (n - p.start - 1) / p.multiplier + 1 → p.start + j * p.multiplier < n
    below_reach j h =
        let q = (n - p.start - 1) / p.multiplier in
        let few : j ≤ q = omega arith in
        omega (arith, mul-le-mul_right p.multiplier few, div-mul-le_self (n - p.start - 1) p.multiplier)

    reach : n ≤ p.start + ((n - p.start - 1) / p.multiplier + 1) * p.multiplier
    reach = omega (arith, lt-div-mul-add {a = n - p.start - 1} {b = p.multiplier} moves)

    -- so many steps reach n
    pub first_reached : (n - p.start - 1) / p.multiplier + 1 < p.length → first_from n (piece_numbers p) ≡ Some (p.start + ((n - p.start - 1) / p.multiplier + 1) * p.multiplier)
    first_reached h =
        let k = (n - p.start - 1) / p.multiplier + 1 in
        let f : ℕ → ℕ = λ j. p.start + j * p.multiplier in
        let at : 0 + k ≡ k = omega arith in
        first_at n f 0 k p.length h (λ j l. let e : j ≡ 0 + j = omega arith in subst (λ i. f i < n) e (below_reach j l)) (subst (λ i. n ≤ f i) (sym at) reach) ∙ ap (λ i. Some (f i)) at

    -- the piece ends before
    pub first_beyond : p.length ≤ (n - p.start - 1) / p.multiplier + 1 → first_from n (piece_numbers p) ≡ None
    first_beyond h =
        let f : ℕ → ℕ = λ j. p.start + j * p.multiplier in
        first_none n f 0 p.length (λ j l. let e : j ≡ 0 + j = omega arith in subst (λ i. f i < n) e (below_reach j (omega arith)))

-- one number more of a piece
pub front_number : {X : Type 0} (f : ℕ → X) (p : Piece) (j : ℕ) → map f (map (piece_number p) (range_with_len 0 (j + 1))) ≡ map f (map (piece_number p) (range_with_len 0 j)) ++ f (piece_number p j) ∷ []
front_number f p j =
    let at : 0 + j ≡ j = omega arith in
    ap (map f) (map-range_with_len_more (piece_number p) 0 j j at) ∙ map_push f (map (piece_number p) (range_with_len 0 j)) (piece_number p j)

-- where no number is at least n, each is below it
pub number_below : (n : ℕ) (p : Piece) (j : ℕ) → first_from n (piece_numbers p) ≡ None → j < p.length → piece_number p j < n
number_below n p j none h =
    let at : 0 + j ≡ j = omega arith in
    subst (λ i. piece_number p i < n) at (below n (piece_number p) 0 p.length j none h)
  where
    test : (n x : ℕ) (rest : Option ℕ) → cond (nat_le n x) (Some x) rest ≡ None → (x < n) × (rest ≡ None)
    test n x rest e = by (nat_le n x) refl e
      where
        by : (b : Bool) → nat_le n x ≡ b → cond b (Some x) rest ≡ None → (x < n) × (rest ≡ None)
        by true t e = cc
        by false t e = (grind (arith, nat_tests), e)

    below : (n : ℕ) (f : ℕ → ℕ) (a len j : ℕ) → first_from n (map f (range_with_len a len)) ≡ None → j < len → f (a + j) < n
    below n f a zero j e h = absurd (omega arith)
    below n f a (suc len) zero e h = subst (λ i. f i < n) (sym (add-zero a)) (test n (f a) _ e).0
    below n f a (suc len) (suc j) e h =
        let same : a + 1 + j ≡ a + suc j = omega arith in
        subst (λ i. f i < n) same (below n f (a + 1) len j (test n (f a) _ e).1 (omega arith))

pub length-piece_numbers : (p : Piece) → length (piece_numbers p) ≡ p.length
length-piece_numbers p = length-map-range_with_len (piece_number p) 0 p.length

-- number j of a piece
pub number_at : (p : Piece) (j : ℕ) (rest : List ℕ) → j < p.length → slice_get (piece_numbers p ++ rest) j ≡ Some (piece_number p j)
number_at p j rest h =
    let within : j < length (piece_numbers p) = omega (arith, length-piece_numbers p) in
    let whole : j < length (piece_numbers p ++ rest) = omega (arith, length-append (piece_numbers p) rest) in
    let at : 0 + j ≡ j = omega arith in
    slice_get-get_or (piece_numbers p ++ rest) j 0 whole ∙ ap (λ x. Some x) (get_or_append_left (piece_numbers p) rest 0 j within ∙ get_or-map-range_with_len (piece_number p) 0 p.length j j 0 h at)

-- a number behind those of a piece
pub number_behind : (p : Piece) (j : ℕ) (rest : List ℕ) → p.length ≤ j → slice_get (piece_numbers p ++ rest) j ≡ slice_get rest (j - p.length)
number_behind p j rest h =
    behind (piece_numbers p) rest j (omega (arith, length-piece_numbers p)) ∙ ap (λ n. slice_get rest (j - n)) (length-piece_numbers p)
  where
    behind : (xs ys : List ℕ) (j : ℕ) → length xs ≤ j → slice_get (xs ++ ys) j ≡ slice_get ys (j - length xs)
    behind [] ys j h = ap (slice_get ys) (sym (sub-zero j))
    behind (x ∷ xs) ys zero h = absurd (omega arith)
    behind (x ∷ xs) ys (suc j) h =
        let same : j - length xs ≡ suc j - suc (length xs) = omega arith in
        behind xs ys j (omega arith) ∙ ap (slice_get ys) same
