-- Which rows of bools are true, by their words.
use Rattle.std.proofs.Common.{◌≡◌, ℕ, zero, suc, ◌+◌, ◌*◌, ◌/◌, ◌%◌, ◌<◌, Bool, true, false, cond, List, [], ◌∷◌, length, take, drop, replicate, bit_and, None, Ok, Err, Result, IfOk, refl, sym, ap, ap₂, ◌∙◌, arith}
use Rattle.std.specs.Prelude.{◌&&◌, min}
use Rattle.std.specs.List.{items_where_true}
use Rattle.std.proofs.lemmas.List.{length-map, length-replicate}
use Rattle.std.proofs.lemmas.List.Sums.{sum_by-cons}
use lib.Bits.{and_step, and_zero_r}
use Rattle.vx_bits.specs.BitBuffer.{PlacedBits, number_of, true_count_of}
use Rattle.vx_mask.specs.Mask.{mask_bits}
use Rattle.vx_model.specs.Column.{Column}
use Rattle.vx_model.specs.Valid.{by_column, is_yes}
use Rattle.vx_model.specs.Bool.{BoolParts, bool_fault}
use Rattle.vx_model.specs.Filter.{FilterParts, filter_fault, filter_column}
use Rattle.vx_model.proofs.Items.{items_where_true-all, items_where_true-none, map-items_where_true}
use Rattle.vx_model.proofs.LazyRows.{long-filter}
use Rattle.vx_model.proofs.Layouts.{is_fitting-bool, length-bool}
use Rattle.vx_column.specs.Truth.{true_bits}
use Rattle.vx_column.proofs.TruthBits.{both, true-all_valid, true-non_nullable}

-- ---- bits that are set in both of two lists

both-nothing : (xs : List Bool) → both xs [] ≡ []
both-nothing [] = refl
both-nothing (a ∷ xs) = refl

pub take-both : (n : ℕ) (xs ys : List Bool) → take n (both xs ys) ≡ both (take n xs) (take n ys)
take-both zero xs ys = refl
take-both (suc n) [] ys = refl
take-both (suc n) (a ∷ xs) [] = refl
take-both (suc n) (a ∷ xs) (b ∷ ys) = ap (λ l. (a && b) ∷ l) (take-both n xs ys)

pub drop-both : (n : ℕ) (xs ys : List Bool) → drop n (both xs ys) ≡ both (drop n xs) (drop n ys)
drop-both zero xs ys = refl
drop-both (suc n) [] ys = refl
drop-both (suc n) (a ∷ xs) [] = sym (both-nothing (drop n xs))
drop-both (suc n) (a ∷ xs) (b ∷ ys) = drop-both n xs ys

pub length-both : (xs ys : List Bool) → length xs ≡ length ys → length (both xs ys) ≡ length ys
length-both [] [] h = refl
length-both [] (b ∷ ys) h = absurd (omega arith)
length-both (a ∷ xs) [] h = absurd (omega arith)
length-both (a ∷ xs) (b ∷ ys) h = ap suc (length-both xs ys (omega arith))

-- numbers with one more bit below
and_more : (a b x y : ℕ) → a < 2 → b < 2 → bit_and (a + 2 * x) (b + 2 * y) ≡ min a b + 2 * bit_and x y
and_more a b x y h k =
    let e : bit_and ((a + 2 * x) / 2) ((b + 2 * y) / 2) ≡ bit_and x y = ap₂ bit_and (omega arith) (omega arith) in
    let first : (a + 2 * x) % 2 ≡ a = omega arith in
    let second : (b + 2 * y) % 2 ≡ b = omega arith in
    omega (arith, and_step (a + 2 * x) (b + 2 * y), e, ap₂ min first second)

pub number-both : (xs ys : List Bool) → number_of (both xs ys) ≡ bit_and (number_of xs) (number_of ys)
number-both [] ys = refl
number-both (a ∷ xs) [] = sym (and_zero_r (number_of (a ∷ xs)))
number-both (true ∷ xs) (true ∷ ys) = omega (arith, and_more 1 1 (number_of xs) (number_of ys) (omega arith) (omega arith), number-both xs ys)
number-both (true ∷ xs) (false ∷ ys) = omega (arith, and_more 1 0 (number_of xs) (number_of ys) (omega arith) (omega arith), number-both xs ys)
number-both (false ∷ xs) (true ∷ ys) = omega (arith, and_more 0 1 (number_of xs) (number_of ys) (omega arith) (omega arith), number-both xs ys)
number-both (false ∷ xs) (false ∷ ys) = omega (arith, and_more 0 0 (number_of xs) (number_of ys) (omega arith) (omega arith), number-both xs ys)

-- as many as there are set bits at the set positions
pub count-both : (mask bits : List Bool) → true_count_of (items_where_true mask bits) ≡ true_count_of (both mask bits)
count-both [] bits = refl
count-both (m ∷ mask) [] = refl
count-both (true ∷ mask) (b ∷ bits) = omega (arith, count-both mask bits, sum_by-cons (λ x. cond x 1 0) b (items_where_true mask bits), sum_by-cons (λ x. cond x 1 0) b (both mask bits))
count-both (false ∷ mask) (b ∷ bits) = omega (arith, count-both mask bits, sum_by-cons (λ x. cond x 1 0) false (both mask bits))

-- ---- layouts `Bool` and `Filter`

-- a validity array is as long
pub long-valid : (p : BoolParts) (c : Column) → bool_fault p ≡ None → p.valid ≡ by_column c → length c.rows ≡ length p.bits.bits
long-valid p c h e = grind arith

pub length-true_bits : (c : Column) → length (true_bits c) ≡ length c.rows
length-true_bits c = length-map c.rows is_yes

pub true-filter : (p : FilterParts) → true_bits (filter_column p) ≡ items_where_true (mask_bits p.mask) (true_bits p.child)
true-filter p = map-items_where_true is_yes (mask_bits p.mask) p.child.rows

count-all-of : (n : ℕ) (mask bits : List Bool) → mask ≡ replicate n true → length mask ≡ length bits → true_count_of bits ≡ true_count_of (items_where_true mask bits)
count-all-of n mask bits e long =
    let same : n ≡ length bits = sym (length-replicate n true) ∙ ap length (sym e) ∙ long in
    ap true_count_of (items_where_true-all n bits same ∙ ap (λ m. items_where_true m bits) (sym e))

pub count-all : (p : FilterParts) (n : ℕ) (child : Column) → filter_fault p ≡ None → (mask_bits p.mask) ≡ replicate n true → child ≡ p.child → true_count_of (true_bits child) ≡ true_count_of (true_bits (filter_column p))
count-all p n child h e same =
    ap (λ c. true_count_of (true_bits c)) same
    ∙ count-all-of n (mask_bits p.mask) (true_bits p.child) e (long-filter p h ∙ sym (length-true_bits p.child))
    ∙ ap true_count_of (sym (true-filter p))

pub count-none : (p : FilterParts) (n : ℕ) → (mask_bits p.mask) ≡ replicate n false → 0 ≡ true_count_of (true_bits (filter_column p))
count-none p n e =
    ap true_count_of (items_where_true-none n (true_bits p.child) ∙ ap (λ m. items_where_true m (true_bits p.child)) (sym e) ∙ sym (true-filter p))

-- bits that are finished
pub finished : {E : Type 0} (r : Result PlacedBits E) (bits all : List Bool) → IfOk r (λ b. b ≡ record { bits = bits; offset = 0 }) → bits ≡ all → IfOk r (λ b. b.bits ≡ all)
finished (Ok b) bits all h e = ap (λ p. p.bits) h ∙ e
finished (Err x) bits all h e = tt

pub ruleset truth = (true-non_nullable, true-all_valid, long-valid, is_fitting-bool, length-bool, length-true_bits, true-filter)
