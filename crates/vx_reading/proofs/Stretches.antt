-- Stretches of rows that are true: the words of the bits behind any place.
use Rattle.std.proofs.Common.{◌≡◌, ℕ, zero, suc, ◌+◌, ◌-◌, ◌*◌, ◌%◌, ◌^◌, ◌<◌, ◌≤◌, min, Bool, true, false, List, [], ◌∷◌, ◌++◌, length, get_or, map, take, drop, replicate, bit_and, None, append-nil, refl, sym, ap, ap₂, subst, ◌∙◌, arith}
use Rattle.std.specs.Int.RustNames.{count_ones}
use Rattle.std.specs.List.{items_where_true, slice_range}
use Rattle.std.proofs.lemmas.List.{drop-replicate, get_or-drop, get_or-take, length-drop, length-map, length-replicate, length-take, take-replicate, take_all}
use Rattle.std.proofs.Math.Seq.{take-append_seam, take-add}
use Rattle.std.proofs.lemmas.List.Sums.{count_by-le-length}
use Rattle.std.proofs.lemmas.Nat.{and_comm, one_shl}
use Rattle.std.proofs.Math.Nat.{mod-eq_of_lt, pow-suc}
use lib.Bits.{and_zero_r}
use Rattle.vx_bits.specs.BitBuffer.{number_of, true_count_of}
use Rattle.vx_bits.specs.Words.{word_at, word_bits}
use Rattle.vx_bits.proofs.BitLists.{number_below}
use Rattle.vx_bits.proofs.WordBits.{length-word_bits, number_of-word_bits, true_count_of-word_bits, word_bits-number_of}
use Rattle.vx_bits.proofs.WordLists.{picked-append, picked_clear, picked_short, true_count_of-bits_in, true_count_of-take}
use Rattle.vx_bitfilter.specs.Pext.{pext}
use Rattle.vx_mask.specs.Mask.{mask_bits}
use Rattle.vx_mask.specs.Positions.{rank_of}
use Rattle.vx_mask.proofs.PositionLists.{all_are_set, place_of, rank_true, true_count_before_set, true_count_of-cons}
use Rattle.vx_mask.proofs.WordCounts.{counts_rise}
use Rattle.vx_types.specs.RowValue.{bit}
use Rattle.vx_model.specs.Column.{Column}
use Rattle.vx_model.specs.Constant.{ConstantParts, constant_column}
use Rattle.vx_model.specs.Valid.{is_yes, all_invalid, by_column, present_bits}
use Rattle.vx_model.specs.Bool.{BoolParts, bool_fault, bool_column}
use Rattle.vx_model.specs.Filter.{FilterParts, filter_fault, filter_column}
use Rattle.vx_model.proofs.Items.{items_where_true-all, items_where_true-none}
use Rattle.vx_model.proofs.LazyRows.{length-filter, long-filter}
use Rattle.vx_column.specs.Truth.{true_bits}
use Rattle.vx_column.proofs.TruthBits.{both, true-bool}
use Rattle.vx_lemmas.proofs.Lists.{map-replicate}
use Rattle.vx_mask.proofs.RankedItems.{length-items_where_true}
use Rattle.vx_reading.specs.BoolRows.{IsStretch}
use Rattle.vx_reading.proofs.TruthBits.{count-both, drop-both, length-both, length-true_bits, long-valid, number-both, take-both, true-filter}

-- ---- a stretch of any bits

pub length-part : (bits : List Bool) (start n : ℕ) → start + n ≤ length bits → length (take n (drop start bits)) ≡ n
length-part bits start n h = omega (arith, length-take n (drop start bits), length-drop start bits)

-- the word of a slice
pub word-from : (bits : List Bool) (start n : ℕ) → n ≤ 64 → word_at (slice_range bits start (start + n)) 0 ≡ number_of (take n (drop start bits))
unfolding word_at
word-from bits start n few =
    let behind = drop start bits in
    let cut : start + n - start ≡ n = omega arith in
    ap number_of (
    ap (λ k. take 64 (drop (64 * 0) (take k behind))) cut
    ∙ take_all 64 (take n behind) (omega (arith, length-take n behind))
    )

-- the bits of a word are as many as are set in it
pub ones : (bits : List Bool) → length bits ≤ 64 → count_ones (number_of bits) ≡ true_count_of bits
unfolding word_at
ones bits h =
    let e : take 64 (drop (64 * 0) bits) ≡ bits = take_all 64 bits h in
    sym (ap (λ l. count_ones (number_of l)) e) ∙ sym (true_count_of-bits_in bits 0) ∙ ap true_count_of e

pub stretch-of : (bits : List Bool) (start word n : ℕ) → start < length bits → n ≡ min (length bits - start) 64 → word ≡ number_of (take n (drop start bits)) → IsStretch bits start word n
stretch-of bits start word n h e is = record { some = omega arith; few = omega arith; within = omega arith; spelled = is }

-- one stretch more: its set bits, and its bits
pub more-counted : (bits : List Bool) (start word n : ℕ) → IsStretch bits start word n → true_count_of (take (start + n) bits) ≡ true_count_of (take start bits) + count_ones word
more-counted bits start word n s =
    let part = take n (drop start bits) in
    let short : length part ≤ 64 = omega (arith, length-part bits start n s.within, s.few) in
    omega (arith, true_count_of-take bits start n, ap count_ones s.spelled, ones part short)

pub more-bits : (bits : List Bool) (start word n : ℕ) → IsStretch bits start word n → take start bits ++ word_bits word n ≡ take (start + n) bits
more-bits bits start word n s =
    let part = take n (drop start bits) in
    let whole : n ≡ length part + 0 = omega (arith, length-part bits start n s.within) in
    ap (λ l. take start bits ++ l) (ap₂ word_bits s.spelled whole ∙ word_bits-number_of part 0 ∙ append-nil part)
    ∙ sym (take-add start n bits)

-- ---- bits that are set in both of two lists

number-of-both : (xs ys : List Bool) (start n : ℕ) → number_of (take n (drop start (both xs ys))) ≡ bit_and (number_of (take n (drop start xs))) (number_of (take n (drop start ys)))
number-of-both xs ys start n =
    ap number_of (ap (take n) (drop-both start xs ys) ∙ take-both n (drop start xs) (drop start ys))
    ∙ number-both (take n (drop start xs)) (take n (drop start ys))

pub stretch-both : (xs ys : List Bool) (start word other n : ℕ) → length xs ≡ length ys → IsStretch xs start word n → other ≡ number_of (take n (drop start ys)) → IsStretch (both xs ys) start (bit_and word other) n
stretch-both xs ys start word other n long s e = record {
  some = s.some;
  few = s.few;
  within = omega (arith, s.within, length-both xs ys long);
  spelled = ap₂ bit_and s.spelled e ∙ sym (number-of-both xs ys start n);
}

both-swap : (xs ys : List Bool) → both xs ys ≡ both ys xs
both-swap [] [] = refl
both-swap [] (b ∷ ys) = refl
both-swap (a ∷ xs) [] = refl
both-swap (true ∷ xs) (true ∷ ys) = ap (λ l. true ∷ l) (both-swap xs ys)
both-swap (true ∷ xs) (false ∷ ys) = ap (λ l. false ∷ l) (both-swap xs ys)
both-swap (false ∷ xs) (true ∷ ys) = ap (λ l. false ∷ l) (both-swap xs ys)
both-swap (false ∷ xs) (false ∷ ys) = ap (λ l. false ∷ l) (both-swap xs ys)

pub count-swapped : (mask bits : List Bool) → true_count_of (items_where_true mask bits) ≡ true_count_of (both bits mask)
count-swapped mask bits = count-both mask bits ∙ ap true_count_of (both-swap mask bits)

none-front : (n m : ℕ) → number_of (take n (replicate m false)) ≡ 0
none-front zero m = refl
none-front (suc n) zero = refl
none-front (suc n) (suc m) = omega (arith, none-front n m)

none-set : (m : ℕ) (ys : List Bool) (start n : ℕ) → 0 ≡ number_of (take n (drop start (both (replicate m false) ys)))
none-set m ys start n =
    let none = ap (λ l. number_of (take n l)) (drop-replicate start m false) ∙ none-front n (m - start) in
    sym (
    number-of-both (replicate m false) ys start n
    ∙ ap (λ w. bit_and w (number_of (take n (drop start ys)))) none
    ∙ and_comm 0 (number_of (take n (drop start ys)))
    ∙ and_zero_r (number_of (take n (drop start ys)))
    )

-- ---- layout `Constant`

number-all : (n : ℕ) → number_of (replicate n true) + 1 ≡ 2 ^ n
number-all zero = refl
number-all (suc n) = omega (arith, number-all n, pow-suc 2 n)

none-alike : (n : ℕ) → 0 ≡ number_of (replicate n false)
none-alike zero = refl
none-alike (suc n) = omega (arith, none-alike n)

pub alike-none : (b : Bool) (n : ℕ) → b ≡ false → 0 ≡ number_of (replicate n b)
alike-none b n e = none-alike n ∙ ap (λ x. number_of (replicate n x)) (sym e)

pub alike-full : (b : Bool) (n : ℕ) → b ≡ true → n ≡ 64 → 18446744073709551615 ≡ number_of (replicate n b)
alike-full b n e is = omega (arith, number-all 64, ap (λ x. number_of (replicate n x)) e, ap (λ k. number_of (replicate k true)) is)

pub alike-part : (b : Bool) (n : ℕ) → b ≡ true → n < 64 → 1 * 2 ^ n % 2 ^ 64 - 1 ≡ number_of (replicate n b)
alike-part b n e h = omega (arith, number-all n, one_shl n 64 h, ap (λ x. number_of (replicate n x)) e)

pub ruleset alike_bits = (alike-none, alike-full, alike-part)

pub stretch-constant : (p : ConstantParts) (start word n : ℕ) → start < p.len → n ≡ min (p.len - start) 64 → word ≡ number_of (replicate n (is_yes p.scalar.row)) → IsStretch (true_bits (constant_column p)) start word n
stretch-constant p start word n h is e =
    let b = is_yes p.scalar.row in
    let all : true_bits (constant_column p) ≡ replicate p.len b = map-replicate is_yes p.len p.scalar.row in
    let part : take n (drop start (replicate p.len b)) ≡ replicate n b =
    ap (take n) (drop-replicate start p.len b) ∙ take-replicate n (p.len - start) b (omega arith) in
    let P : List Bool → Type 0 = λ l. IsStretch l start word n in
    let long = length-replicate p.len b in
    subst P (sym all) (stretch-of (replicate p.len b) start word n (omega (arith, long)) (omega (arith, long)) (e ∙ ap number_of (sym part)))

-- ---- layout `Bool`

pub stretch-all_invalid : (p : BoolParts) (start n : ℕ) → p.valid ≡ all_invalid → start < length p.bits.bits → n ≡ min (length p.bits.bits - start) 64 → IsStretch (true_bits (bool_column p)) start 0 n
stretch-all_invalid p start n e h is =
    let m = length (map bit p.bits.bits) in
    let all : true_bits (bool_column p) ≡ both (replicate m false) p.bits.bits = true-bool p ∙ ap (λ v. both (present_bits v m) p.bits.bits) e in
    let long : length (replicate m false) ≡ length p.bits.bits = length-replicate m false ∙ length-map p.bits.bits bit in
    let as_long = length-both (replicate m false) p.bits.bits long in
    let P : List Bool → Type 0 = λ l. IsStretch l start 0 n in
    subst P (sym all) (stretch-of (both (replicate m false) p.bits.bits) start 0 n (omega (arith, as_long)) (omega (arith, as_long)) (none-set m p.bits.bits start n))

pub stretch-by_column : (p : BoolParts) (c : Column) (start word other n : ℕ) → bool_fault p ≡ None → p.valid ≡ by_column c → IsStretch (true_bits c) start word n → other ≡ number_of (take n (drop start p.bits.bits)) → IsStretch (true_bits (bool_column p)) start (bit_and word other) n
stretch-by_column p c start word other n fits e s is =
    let m = length (map bit p.bits.bits) in
    let all : true_bits (bool_column p) ≡ both (true_bits c) p.bits.bits = true-bool p ∙ ap (λ v. both (present_bits v m) p.bits.bits) e in
    let long : length (true_bits c) ≡ length p.bits.bits = length-true_bits c ∙ long-valid p c fits e in
    let P : List Bool → Type 0 = λ l. IsStretch l start (bit_and word other) n in
    subst P (sym all) (stretch-both (true_bits c) p.bits.bits start word other n long s is)

-- ---- layout `Filter`

where-drop : (n : ℕ) (mask xs : List Bool) → length mask ≡ length xs → drop (true_count_of (take n mask)) (items_where_true mask xs) ≡ items_where_true (drop n mask) (drop n xs)
where-drop zero mask xs h = refl
where-drop (suc n) [] [] h = refl
where-drop (suc n) [] (x ∷ xs) h = absurd (omega arith)
where-drop (suc n) (m ∷ mask) [] h = absurd (omega arith)
where-drop (suc n) (true ∷ mask) (x ∷ xs) h =
    let one : true_count_of (true ∷ take n mask) ≡ suc (true_count_of (take n mask)) = omega (arith, true_count_of-cons true (take n mask)) in
    ap (λ k. drop k (x ∷ items_where_true mask xs)) one ∙ where-drop n mask xs (omega arith)
where-drop (suc n) (false ∷ mask) (x ∷ xs) h =
    let none : true_count_of (false ∷ take n mask) ≡ true_count_of (take n mask) = omega (arith, true_count_of-cons false (take n mask)) in
    ap (λ k. drop k (items_where_true mask xs)) none ∙ where-drop n mask xs (omega arith)

where-take : (n : ℕ) (mask xs : List Bool) → length mask ≡ length xs → take (true_count_of (take n mask)) (items_where_true mask xs) ≡ items_where_true (take n mask) (take n xs)
where-take zero mask xs h = refl
where-take (suc n) [] [] h = refl
where-take (suc n) [] (x ∷ xs) h = absurd (omega arith)
where-take (suc n) (m ∷ mask) [] h = absurd (omega arith)
where-take (suc n) (true ∷ mask) (x ∷ xs) h =
    let one : true_count_of (true ∷ take n mask) ≡ suc (true_count_of (take n mask)) = omega (arith, true_count_of-cons true (take n mask)) in
    ap (λ k. take k (x ∷ items_where_true mask xs)) one ∙ ap (λ l. x ∷ l) (where-take n mask xs (omega arith))
where-take (suc n) (false ∷ mask) (x ∷ xs) h =
    let none : true_count_of (false ∷ take n mask) ≡ true_count_of (take n mask) = omega (arith, true_count_of-cons false (take n mask)) in
    ap (λ k. take k (items_where_true mask xs)) none ∙ where-take n mask xs (omega arith)

-- the word of the bits that a word's bits pick
packed : (mask xs : List Bool) → length mask ≡ length xs → length mask ≤ 64 → pext (number_of xs) (number_of mask) ≡ number_of (items_where_true mask xs)
unfolding pext
packed mask xs long short =
    let k = 64 - length mask in
    let picks : word_bits (number_of mask) 64 ≡ mask ++ replicate k false =
    ap (word_bits (number_of mask)) (let e : 64 ≡ length mask + k = omega arith in e) ∙ word_bits-number_of mask k in
    let src : word_bits (number_of xs) 64 ≡ xs ++ replicate k false =
    ap (word_bits (number_of xs)) (let e : 64 ≡ length xs + k = omega arith in e) ∙ word_bits-number_of xs k in
    let all = xs ++ replicate k false in
    let front : items_where_true mask all ≡ items_where_true mask xs =
    sym (picked_short mask all (length xs) (omega arith)) ∙ ap (items_where_true mask) (take-append_seam xs (replicate k false)) in
    ap number_of (
    ap₂ items_where_true picks src
    ∙ picked-append mask (replicate k false) all
    ∙ ap (λ l. items_where_true mask all ++ l) (picked_clear k (drop (length mask) all))
    ∙ append-nil (items_where_true mask all)
    ∙ front
    )

-- where all are picked, the word stays
pub packed-full : (word picks n : ℕ) → n ≤ 64 → word < 2 ^ n → picks < 2 ^ n → count_ones picks ≡ n → word ≡ pext word picks
packed-full word picks n few small fit all =
    let mask = word_bits picks n in let own = word_bits word n in
    let count : true_count_of mask ≡ length mask = true_count_of-word_bits picks n fit ∙ all ∙ sym (length-word_bits picks n) in
    let set : mask ≡ replicate n true = all_are_set mask count ∙ ap (λ k. replicate k true) (length-word_bits picks n) in
    let is_picks : number_of mask ≡ picks = number_of-word_bits picks n ∙ mod-eq_of_lt fit in
    let is_word : number_of own ≡ word = number_of-word_bits word n ∙ mod-eq_of_lt small in
    let long : length mask ≡ length own = length-word_bits picks n ∙ sym (length-word_bits word n) in
    sym (
    ap₂ pext (sym is_word) (sym is_picks)
    ∙ packed mask own long (omega (arith, length-word_bits picks n))
    ∙ ap (λ m. number_of (items_where_true m own)) set
    ∙ ap number_of (sym (items_where_true-all n own (sym (length-word_bits word n))))
    ∙ is_word
    )

pub ruleset full_picks = packed-full

-- the bits of a stretch make a number below that power of 2
pub part-below : (bits : List Bool) (start word n : ℕ) → start + n ≤ length bits → word ≡ number_of (take n (drop start bits)) → word < 2 ^ n
part-below bits start word n h e =
    let part = take n (drop start bits) in
    subst (λ k. word < 2 ^ k) (length-part bits start n h) (subst (λ w. w < 2 ^ length part) (sym e) (number_below part))

stretch-picked : (mask bits : List Bool) (start at all n picks word len : ℕ) → length mask ≡ length bits → start < true_count_of mask → at ≡ rank_of mask start → IsStretch bits at all n → picks ≡ number_of (take n (drop at mask)) → word ≡ pext all picks → len ≡ count_ones picks → IsStretch (items_where_true mask bits) start word len
stretch-picked mask bits start at all n picks word len long below rank s e is counted =
    let place = place_of 0 mask start 0 below in
    let same : place.0 ≡ at = omega (arith, place.1.position, rank) in
    let passed : true_count_of (take at mask) ≡ start = ap (λ p. true_count_of (take p mask)) (sym same) ∙ place.1.passed in
    let set : get_or mask at false ≡ true = ap (λ p. get_or mask p false) (sym same) ∙ place.1.set in
    let part = take n (drop at mask) in
    let own = take n (drop at bits) in
    let whole : length part ≡ n = length-part mask at n (omega (arith, s.within, long)) in
    let own_whole : length own ≡ n = length-part bits at n s.within in
    let many : len ≡ true_count_of part = counted ∙ ap count_ones e ∙ ones part (omega (arith, whole, s.few)) in
    let one : at + 0 ≡ at = omega arith in
    let first : get_or part 0 false ≡ true = get_or-take n (drop at mask) 0 false s.some ∙ get_or-drop at mask 0 false ∙ ap (λ p. get_or mask p false) one ∙ set in
    let some = true_count_before_set part 0 (omega (arith, whole, s.some)) first in
    let rest : length (drop at mask) ≡ length (drop at bits) = omega (arith, length-drop at mask, length-drop at bits, long) in
    record {
      some = omega (arith, many, some);
      few = omega (arith, many, count_by-le-length (λ b. b) part, whole, s.few);
      within = omega (arith, many, passed, true_count_of-take mask at n, counts_rise mask (at + n), length-items_where_true mask bits long);
      spelled =
          is
          ∙ ap₂ pext s.spelled e
          ∙ packed part own (whole ∙ sym own_whole) (omega (arith, whole, s.few))
          ∙ ap number_of (
          sym (where-take n (drop at mask) (drop at bits) rest)
          ∙ sym (ap₂ take many (ap (λ k. drop k (items_where_true mask bits)) (sym passed) ∙ where-drop at mask bits long))
          );
    }

-- a mask of all rows
pub stretch-all : (p : FilterParts) (n start at word len : ℕ) → filter_fault p ≡ None → (mask_bits p.mask) ≡ replicate n true → start < length (filter_column p).rows → at ≡ rank_of (mask_bits p.mask) start → IsStretch (true_bits p.child) at word len → IsStretch (true_bits (filter_column p)) start word len
stretch-all p n start at word len fits e below rank s =
    let many : length (filter_column p).rows ≡ true_count_of (replicate n true) = length-filter p fits ∙ ap true_count_of e in
    let same : at ≡ start = rank ∙ ap (λ m. rank_of m start) e ∙ sym (rank_true n start (omega (arith, many))) in
    let long : n ≡ length (true_bits p.child) = sym (length-replicate n true) ∙ ap length (sym e) ∙ long-filter p fits ∙ sym (length-true_bits p.child) in
    let all : true_bits p.child ≡ true_bits (filter_column p) =
    items_where_true-all n (true_bits p.child) long ∙ ap (λ m. items_where_true m (true_bits p.child)) (sym e) ∙ sym (true-filter p) in
    let P : ℕ → Type 0 = λ a. IsStretch (true_bits p.child) a word len in
    let Q : List Bool → Type 0 = λ l. IsStretch l start word len in
    subst Q all (subst P same s)

-- and of none, which has no row
pub no-row : (p : FilterParts) (n start : ℕ) → (mask_bits p.mask) ≡ replicate n false → start < length (filter_column p).rows → ⊥
no-row p n start e below =
    let none : [] ≡ items_where_true (mask_bits p.mask) p.child.rows = items_where_true-none n p.child.rows ∙ ap (λ m. items_where_true m p.child.rows) (sym e) in
    omega (arith, ap length none)

pub stretch-filter : (p : FilterParts) (start at all n picks word len : ℕ) → filter_fault p ≡ None → start < length (filter_column p).rows → at ≡ rank_of (mask_bits p.mask) start → IsStretch (true_bits p.child) at all n → picks ≡ number_of (take n (drop at (mask_bits p.mask))) → word ≡ pext all picks → len ≡ count_ones picks → IsStretch (true_bits (filter_column p)) start word len
stretch-filter p start at all n picks word len fits below rank s e is counted =
    let long : length (mask_bits p.mask) ≡ length (true_bits p.child) = long-filter p fits ∙ sym (length-true_bits p.child) in
    let kept : length (filter_column p).rows ≡ true_count_of (mask_bits p.mask) = length-items_where_true (mask_bits p.mask) p.child.rows (long-filter p fits) in
    let P : List Bool → Type 0 = λ l. IsStretch l start word len in
    subst P (sym (true-filter p)) (stretch-picked (mask_bits p.mask) (true_bits p.child) start at all n picks word len long (omega (arith, kept)) rank s e is counted)
