-- Which elements lie in selected lists.
use Rattle.std.proofs.Common.{◌≡◌, ℕ, zero, suc, ◌+◌, ◌-◌, ◌<◌, ◌≤◌, Bool, true, List, [], ◌∷◌, ◌++◌, ◌⊎◌, inl, inr, length, get_or, map, Some, refl, sym, ap, subst, ◌∙◌, arith}
use Rattle.std.specs.List.{range_with_len, slice_get}
use Rattle.std.proofs.lemmas.Bool.{cases_lt}
use Rattle.vx_mask.specs.Positions.{run_positions, set_of}
use Rattle.vx_mask.proofs.PositionLists.{length-positions, ranks_are_the_set}
use Rattle.vx_lists.specs.Lists.{AreElementBits, MarksSelected, span_at}
use Rattle.vx_lists.proofs.Spans.{spans_at_the_set}

-- p is one of the numbers
abbrev Has : ℕ → List ℕ → Type 0
Has p [] = ⊥
Has p (x ∷ xs) = (x ≡ p) ⊎ Has p xs

has_item : (xs : List ℕ) (k : ℕ) → k < length xs → Has (get_or xs k 0) xs
has_item [] k h = absurd (omega arith)
has_item (x ∷ xs) zero h = inl refl
has_item (x ∷ xs) (suc k) h = inr (has_item xs k (omega arith))

-- where it stands
record IsPlaceOf (p : ℕ) (xs : List ℕ) : Type 0 where
  place : ℕ
  within : place < length xs
  is : get_or xs place 0 ≡ p

place_of_has : (p : ℕ) (xs : List ℕ) → Has p xs → IsPlaceOf p xs
place_of_has p [] h = absurd h
place_of_has p (x ∷ xs) (inl e) = record { place = 0; within = omega arith; is = e }
place_of_has p (x ∷ xs) (inr h) = let rest = place_of_has p xs h in let within = rest.within in record { place = suc rest.place; within = omega arith; is = rest.is }

has_left : (p : ℕ) (xs ys : List ℕ) → Has p xs → Has p (xs ++ ys)
has_left p [] ys h = absurd h
has_left p (x ∷ xs) ys (inl e) = inl e
has_left p (x ∷ xs) ys (inr h) = inr (has_left p xs ys h)

has_right : (p : ℕ) (xs ys : List ℕ) → Has p ys → Has p (xs ++ ys)
has_right p [] ys h = h
has_right p (x ∷ xs) ys h = inr (has_right p xs ys h)

has_either : (p : ℕ) (xs ys : List ℕ) → Has p (xs ++ ys) → Has p xs ⊎ Has p ys
has_either p [] ys h = inr h
has_either p (x ∷ xs) ys (inl e) = inl (inl e)
has_either p (x ∷ xs) ys (inr h) = elim (has_either p xs ys h) [ inl a ↦ inl (inr a) | inr b ↦ inr b ]

has_of_range : (p a n : ℕ) → a ≤ p → p < a + n → Has p (range_with_len a n)
has_of_range p a zero h k = absurd (omega arith)
has_of_range p a (suc n) h k = elim (cases_lt a p) [
  | inl more ↦ inr (has_of_range p (a + 1) n (omega arith) (omega arith))
  | inr last ↦ inl (omega arith)
]

range_of_has : (p a n : ℕ) → Has p (range_with_len a n) → (a ≤ p) × (p < a + n)
range_of_has p a zero h = absurd h
range_of_has p a (suc n) (inl e) = (omega arith, omega arith)
range_of_has p a (suc n) (inr h) = let rest = range_of_has p (a + 1) n h in let low = rest.0 in let high = rest.1 in (omega arith, omega arith)

has_moved : (by p : ℕ) (xs : List ℕ) → Has p xs → Has (by + p) (map (λ x. by + x) xs)
has_moved by p [] h = absurd h
has_moved by p (x ∷ xs) (inl e) = inl (ap (λ n. by + n) e)
has_moved by p (x ∷ xs) (inr h) = inr (has_moved by p xs h)

has_back : (by p : ℕ) (xs : List ℕ) → Has (by + p) (map (λ x. by + x) xs) → Has p xs
has_back by p [] h = absurd h
has_back by p (x ∷ xs) (inl e) = inl (omega arith)
has_back by p (x ∷ xs) (inr h) = inr (has_back by p xs h)

-- the set positions
set_of_has : (bits : List Bool) (p : ℕ) → Has p (set_of bits) → slice_get bits p ≡ Some true
set_of_has bits p h =
    let at = place_of_has p (set_of bits) h in
    let within = at.within in
    (ranks_are_the_set bits p).1 (at.place, omega (arith, length-positions 0 bits), at.is)

has_of_set : (bits : List Bool) (p : ℕ) → slice_get bits p ≡ Some true → Has p (set_of bits)
has_of_set bits p set =
    let rank = (ranks_are_the_set bits p).0 set in
    let below = rank.1 in
    subst (λ (n : ℕ). Has n (set_of bits)) rank.2 (has_item (set_of bits) rank.0 (omega (arith, length-positions 0 bits)))

-- a row whose list has the item
record IsRowOf (offsets rows : List ℕ) (q : ℕ) : Type 0 where
  row : ℕ
  among : Has row rows
  from : get_or offsets row 0 ≤ q
  to : q < get_or offsets (row + 1) 0

row_of_has : (offsets rows : List ℕ) (q : ℕ) → Has q (run_positions (map (span_at offsets) rows)) → IsRowOf offsets rows q
row_of_has offsets [] q h = absurd h
row_of_has offsets (i ∷ rows) q h =
    let low = get_or offsets i 0 in
    let high = get_or offsets (i + 1) 0 in
    elim (has_either q (range_with_len low (high - low)) (run_positions (map (span_at offsets) rows)) h) [
      | inl here ↦ let r = range_of_has q low (high - low) here in let a = r.0 in let b = r.1 in record { row = i; among = inl refl; from = a; to = omega arith }
      | inr later ↦ let r = row_of_has offsets rows q later in record { row = r.row; among = inr r.among; from = r.from; to = r.to }
    ]

has_of_row : (offsets rows : List ℕ) (q i : ℕ) → Has i rows → get_or offsets i 0 ≤ q → q < get_or offsets (i + 1) 0 → Has q (run_positions (map (span_at offsets) rows))
has_of_row offsets [] q i h a b = absurd h
has_of_row offsets (j ∷ rows) q i (inl e) a b =
    let low = get_or offsets j 0 in
    let high = get_or offsets (j + 1) 0 in
    let same_low : low ≡ get_or offsets i 0 = ap (λ k. get_or offsets k 0) e in
    let same_high : high ≡ get_or offsets (i + 1) 0 = ap (λ k. get_or offsets (k + 1) 0) e in
    has_left q (range_with_len low (high - low)) (run_positions (map (span_at offsets) rows)) (has_of_range q low (high - low) (omega arith) (omega arith))
has_of_row offsets (j ∷ rows) q i (inr h) a b =
    has_right q (range_with_len (get_or offsets j 0) (get_or offsets (j + 1) 0 - get_or offsets j 0)) (run_positions (map (span_at offsets) rows)) (has_of_row offsets rows q i h a b)

marks_selected : (offsets : List ℕ) (selection : List Bool) (range : ℕ × ℕ) (bits : List Bool) → length offsets ≡ length selection + 1 → AreElementBits offsets selection range bits → MarksSelected offsets selection range.0 bits
marks_selected offsets selection range bits h v p =
    let start = range.0 in
    let rows = set_of selection in
    let told = v.set ∙ ap run_positions (spans_at_the_set offsets selection h) in (
      (λ set.
          let r = row_of_has offsets rows (start + p) (subst (λ (l : List ℕ). Has (start + p) l) told (has_moved start p (set_of bits) (has_of_set bits p set))) in
          record { row = r.row; selected = set_of_has selection r.row r.among; from = r.from; to = r.to }),
      (λ r. set_of_has bits p (has_back start p (set_of bits) (subst (λ (l : List ℕ). Has (start + p) l) (sym told) (has_of_row offsets rows (start + p) r.row (has_of_set selection r.row r.selected) r.from r.to)))),
    )

-- bits that equal those of the elements mark the selected ones
pub marks_told : (offsets : List ℕ) (selection seen : List Bool) (range : ℕ × ℕ) (bits kept : List Bool) → length offsets ≡ length selection + 1 → seen ≡ selection → kept ≡ bits → AreElementBits offsets seen range bits → MarksSelected offsets selection range.0 kept
marks_told offsets selection seen range bits kept h e f v =
    let w : AreElementBits offsets selection range bits = subst (λ (s : List Bool). AreElementBits offsets s range bits) e v in
    marks_selected offsets selection range kept h (subst (λ (l : List Bool). AreElementBits offsets selection range l) (sym f) w)
