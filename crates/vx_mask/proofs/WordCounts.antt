-- The set bits of words, and the words that are read.
use Rattle.std.proofs.Common.{◌≡◌, ℕ, zero, suc, ◌+◌, ◌*◌, ◌-◌, ◌/◌, ◌%◌, ◌^◌, ◌<◌, ◌≤◌, Bool, true, false, cond, ◌&&◌, leb, ltb, None, Some, Option, List, [], ◌∷◌, ◌++◌, length, get_or, take, bit_and, refl, sym, ap, ap₂, ◌∙◌, inl, inr, arith, zero-add}
use Rattle.std.specs.List.{range_with_len, filter}
use Rattle.std.proofs.lemmas.List.FromFn.{length-range_with_len}
use Rattle.std.specs.Int.{bit_at}
use Rattle.std.specs.Int.RustNames.{count_ones}
use Rattle.std.proofs.lemmas.List.{append_assoc, append-nil}
use Rattle.std.proofs.lemmas.List.Elements.{filter-append}
use Rattle.std.proofs.lemmas.Nat.{mod-pow-add, mod_below, pow_pos}
use Rattle.std.proofs.lemmas.Nat.Bits.{bit_at-lt}
use Rattle.std.proofs.lemmas.Bool.{cases_lt}
use Rattle.std.proofs.lemmas.Bool.Decides.{nat_tests}
use lib.Count.{ones_step, ones_cat}
use Rattle.vx_bits.specs.BitBuffer.{true_count_of}
use Rattle.vx_mask.proofs.PositionLists.{true_count_between, is_passed, position_at}
use Rattle.vx_bits.specs.WordReader.{then_told}
use Rattle.vx_bits.specs.Words.{word_at}
use Rattle.vx_bits.proofs.WordLists.{count_in_word, count_of_word as count_after}
use Rattle.vx_mask.specs.Positions.{set_of, rank_of}
use Rattle.vx_mask.specs.Ranks.{words_between}
use Rattle.vx_mask.proofs.BlockCounts.{count_all}
use Rattle.vx_lemmas.proofs.Lists.{range_split, range_more}
use Rattle.vx_lemmas.proofs.Numbers.{low_bits, count_ones-zero}

-- ---- counts

-- up to the end of a word, the set bits before it and its own
pub count_of_word : (bits : List Bool) (w word : ℕ) → word ≡ word_at bits w → true_count_of (take (64 * (w + 1)) bits) ≡ true_count_of (take (64 * w) bits) + count_ones word
count_of_word bits w word e = count_after bits w ∙ ap (λ n. true_count_of (take (64 * w) bits) + count_ones n) (sym e)

-- no more bits are set before a place than in all
pub counts_rise : (bits : List Bool) (n : ℕ) → true_count_of (take n bits) ≤ true_count_of bits
counts_rise bits n = elim (cases_lt n (length bits)) [
  | inl less ↦ omega (arith, true_count_between bits n (length bits) (omega arith), count_all bits (length bits) (omega arith))
  | inr more ↦ omega (arith, count_all bits n more)
]

-- where fewer bits are set, the place is lower
pub lower : (bits : List Bool) (a b : ℕ) → true_count_of (take a bits) < true_count_of (take b bits) → a < b
lower bits a b h = elim (cases_lt a b) [
  | inl below ↦ below
  | inr above ↦ absurd (omega (arith, true_count_between bits b a above))
]

-- where fewer bits are set than in all, the place is within the bits
inside : (bits : List Bool) (a : ℕ) → true_count_of (take a bits) < true_count_of bits → a < length bits
inside bits a h = lower bits a (length bits) (omega (arith, count_all bits (length bits) (omega arith)))

digit_ones : (d : ℕ) → d < 2 → count_ones d ≡ d
digit_ones d h = let none : d / 2 ≡ 0 = omega arith in omega (arith, ones_step d, ap count_ones none, count_ones-zero)

-- one more bit of a number
pub ones_more : (n k : ℕ) → count_ones (n % 2 ^ (k + 1)) ≡ count_ones (n % 2 ^ k) + bit_at n k
ones_more n k =
    let more : k + 1 ≡ 1 + k = omega arith in
    let parts = ap (λ e. n % 2 ^ e) more ∙ mod-pow-add n 1 k in
    let cat = ones_cat k (bit_at n k) (n % 2 ^ k) (mod_below n (2 ^ k) (pow_pos k)) in
    ap count_ones parts ∙ omega (arith, cat, digit_ones (bit_at n k) (bit_at-lt n k))

-- ---- ranks

-- a word before which at most k bits are set comes before one before which more are
pub word_within : (bits : List Bool) (w end k left : ℕ) → true_count_of (take (64 * w) bits) + left ≡ k → k < true_count_of (take (64 * end) bits) → w < end
word_within bits w end k left passed h = let low = lower bits (64 * w) (64 * end) (omega arith) in omega arith

-- the bit that a rank is the position of
rank_is : (bits : List Bool) (k i : ℕ) → true_count_of (take i bits) ≤ k → k < true_count_of (take (i + 1) bits) → k < true_count_of bits → (rank_of bits k ≡ i) × (i < length bits)
rank_is bits k i p q h =
    let within = inside bits i (omega arith) in
    let here = is_passed bits k i within p q in (
      ap (λ n. get_or (set_of bits) n 0) (sym here.before) ∙ position_at 0 bits i 0 within here.set ∙ omega arith,
      within,
    )

-- the bit that a rank is the position of, by the word that it is in
pub rank_in_word : (bits : List Bool) (k w left place word : ℕ) → word ≡ word_at bits w → true_count_of (take (64 * w) bits) + left ≡ k → place < 64 → count_ones (word % 2 ^ place) ≤ left → left < count_ones (word % 2 ^ (place + 1)) → k < true_count_of bits → (rank_of bits k ≡ 64 * w + place) × (64 * w + place < length bits)
rank_in_word bits k w left place word e passed h p q below =
    let here = count_in_word bits w place (omega arith) in
    let next = count_in_word bits w (place + 1) (omega arith) in
    let low = ap (λ n. count_ones (n % 2 ^ place)) e in
    let more = ap (λ n. count_ones (n % 2 ^ (place + 1))) e in
    let one : 64 * w + (place + 1) ≡ 64 * w + place + 1 = omega arith in
    let step = ap (λ n. true_count_of (take n bits)) one in
    rank_is bits k (64 * w + place) (omega arith) (omega arith) below

-- as many bits are set before that place at most
pub rank_passed : (bits : List Bool) (k w left place word : ℕ) → word ≡ word_at bits w → true_count_of (take (64 * w) bits) + left ≡ k → place < 64 → count_ones (word % 2 ^ place) ≤ left → true_count_of (take (64 * w + place) bits) ≤ k
rank_passed bits k w left place word e passed h p =
    let here = count_in_word bits w place (omega arith) in
    let low = ap (λ n. count_ones (n % 2 ^ place)) e in
    omega arith

-- more bits are set before a later place
pub counted_more : (bits : List Bool) (a b k : ℕ) → a ≤ b → k < true_count_of (take a bits) → k < true_count_of (take b bits)
counted_more bits a b k h p = omega (arith, true_count_between bits a b h)

-- up to a place, by the word that it is in
pub count_before : (bits : List Bool) (p word : ℕ) → word ≡ word_at bits (p / 64) → true_count_of (take (64 * (p / 64)) bits) + count_ones (bit_and word (1 * 2 ^ (p % 64) % 2 ^ 64 - 1)) ≡ true_count_of (take p bits)
count_before bits p word e =
    let whole : 64 * (p / 64) + p % 64 ≡ p = omega arith in
    let place : p % 64 < 64 = omega arith in
    let low = ap count_ones (low_bits word (p % 64) place) ∙ ap (λ n. count_ones (n % 2 ^ (p % 64))) e in
    omega (arith, count_in_word bits (p / 64) (p % 64) (omega arith), low, ap (λ n. true_count_of (take n bits)) whole)

-- ---- reads

kept_all : (p : ℕ → Bool) (a n : ℕ) → ((i : ℕ) → a ≤ i → i < a + n → p i ≡ true) → filter p (range_with_len a n) ≡ range_with_len a n
kept_all p a zero h = refl
kept_all p a (suc n) h =
    ap (λ b. cond b (a ∷ filter p (range_with_len (a + 1) n)) (filter p (range_with_len (a + 1) n))) (h a (omega arith) (omega arith))
    ∙ ap (λ l. a ∷ l) (kept_all p (a + 1) n (λ i u v. h i (omega arith) (omega arith)))

kept_none : (p : ℕ → Bool) (a n : ℕ) → ((i : ℕ) → a ≤ i → i < a + n → p i ≡ false) → filter p (range_with_len a n) ≡ []
kept_none p a zero h = refl
kept_none p a (suc n) h =
    ap (λ b. cond b (a ∷ filter p (range_with_len (a + 1) n)) (filter p (range_with_len (a + 1) n))) (h a (omega arith) (omega arith))
    ∙ kept_none p (a + 1) n (λ i u v. h i (omega arith) (omega arith))

-- the words from a block's first on
pub words_are : (b high n : ℕ) → (64 * (8 * b + n) < high + 64) → high ≤ 64 * (8 * b + n) → words_between (512 * b) high ≡ range_with_len (8 * b) n
unfolding words_between
words_are b high n p q =
    let test : ℕ → Bool = λ w. leb (512 * b) (64 * w) && ltb (64 * w) high in
    elim (cases_lt high (8 * b + n)) [
      | inl short ↦ absurd (omega arith)
      | inr fits ↦
          let whole : high ≡ 8 * b + (n + (high - (8 * b + n))) = omega arith in
          ap (λ m. filter test (range_with_len 0 m)) whole
          ∙ ap (filter test) (range_split 0 (8 * b) (n + (high - (8 * b + n))) ∙ ap (λ l. range_with_len 0 (8 * b) ++ l) (range_split (0 + 8 * b) n (high - (8 * b + n))))
          ∙ filter-append test (range_with_len 0 (8 * b)) (range_with_len (0 + 8 * b) n ++ range_with_len (0 + 8 * b + n) (high - (8 * b + n)))
          ∙ ap₂ ◌++◌ (kept_none test 0 (8 * b) (λ i u v. grind (arith, nat_tests))) (filter-append test (range_with_len (0 + 8 * b) n) (range_with_len (0 + 8 * b + n) (high - (8 * b + n)))
          ∙ ap₂ ◌++◌ (kept_all test (0 + 8 * b) n (λ i u v. grind (arith, nat_tests))) (kept_none test (0 + 8 * b + n) (high - (8 * b + n)) (λ i u v. grind (arith, nat_tests))))
          ∙ append-nil (range_with_len (0 + 8 * b) n) ∙ ap (λ a. range_with_len a n) (zero-add (8 * b))
    ]

-- how many they are
pub words_number : (b high n : ℕ) → (64 * (8 * b + n) < high + 64) → high ≤ 64 * (8 * b + n) → length (words_between (512 * b) high) ≡ n
words_number b high n p q = ap length (words_are b high n p q) ∙ length-range_with_len (8 * b) n

-- what is told after more
told_more : (r : Option (List ℕ)) (xs : List ℕ) (x : ℕ) → then_told (then_told r xs) (x ∷ []) ≡ then_told r (xs ++ x ∷ [])
told_more None xs x = refl
told_more (Some before) xs x = ap Some (append_assoc before xs (x ∷ []))

told_none : (r : Option (List ℕ)) → r ≡ then_told r []
told_none None = refl
told_none (Some before) = ap Some (sym (append-nil before))

pub told_start : (r : Option (List ℕ)) (a : ℕ) → r ≡ then_told r (range_with_len a (a - a))
told_start r a = let none : 0 ≡ a - a = omega arith in told_none r ∙ ap (λ n. then_told r (range_with_len a n)) none

-- one more word of a range is told
pub told_next : (start before after : Option (List ℕ)) (a w : ℕ) → a ≤ w → before ≡ then_told start (range_with_len a (w - a)) → after ≡ then_told before (w ∷ []) → after ≡ then_told start (range_with_len a (w + 1 - a))
told_next start before after a w h e f =
    let place : a + (w - a) ≡ w = omega arith in
    let more : w - a + 1 ≡ w + 1 - a = omega arith in
    f ∙ ap (λ r. then_told r (w ∷ [])) e ∙ told_more start (range_with_len a (w - a)) w
    ∙ ap (λ x. then_told start (range_with_len a (w - a) ++ x ∷ [])) (sym place)
    ∙ ap (then_told start) (sym (range_more a (w - a)))
    ∙ ap (λ n. then_told start (range_with_len a n)) more
