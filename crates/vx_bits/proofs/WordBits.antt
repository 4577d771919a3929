-- The bits of words.
use Rattle.std.proofs.Common.{◌≡◌, ℕ, zero, suc, ◌+◌, ◌-◌, ◌*◌, ◌/◌, ◌%◌, ◌^◌, ◌<◌, ◌≤◌, Bool, true, false, cond, eqb, List, [], ◌∷◌, ◌++◌, length, get_or, take, replicate, inl, inr, refl, sym, ap, ap₂, ◌∙◌, arith, add-zero, zero-add}
use Rattle.std.specs.Int.{bit_at}
use Rattle.std.specs.Int.RustNames.{count_ones}
use Rattle.std.proofs.lemmas.Bool.{cases_eq}
use Rattle.std.proofs.lemmas.List.{append-nil}
use Rattle.std.proofs.lemmas.List.Sums.{sum_by-cons}
use Rattle.std.proofs.lemmas.Nat.{div-add-mod', mod_below, mod-pow-add, pow_pos}
use Rattle.std.proofs.lemmas.Nat.Bits.{bit_at_lowest, bit_at-suc}
use Rattle.std.proofs.Math.Nat.{mod-eq_of_lt, pow-suc, mul_assoc, mul_comm}
use lib.Count.{ones_step, ones-le}
use Rattle.vx_bits.specs.BitBuffer.{number_of, true_count_of}
use Rattle.vx_bits.specs.Words.{word_bits}

pub length-word_bits : (w n : ℕ) → length (word_bits w n) ≡ n
unfolding word_bits
length-word_bits w zero = refl
length-word_bits w (suc n) = ap suc (length-word_bits (w / 2) n)

-- item k is bit k of the word
pub get_or-word_bits : (w n k : ℕ) (d : Bool) → k < n → get_or (word_bits w n) k d ≡ eqb (bit_at w k) 1
unfolding word_bits
get_or-word_bits w zero k d h = absurd (omega arith)
get_or-word_bits w (suc n) zero d h = ap (λ r. eqb r 1) (sym (bit_at_lowest w))
get_or-word_bits w (suc n) (suc k) d h = get_or-word_bits (w / 2) n k d (omega arith) ∙ ap (λ r. eqb r 1) (sym (bit_at-suc w k))

-- no bit
pub word_bits-none : (w : ℕ) → word_bits w 0 ≡ []
unfolding word_bits
word_bits-none w = refl

-- one more bit
pub word_bits_more : (w k : ℕ) → word_bits w (k + 1) ≡ word_bits w k ++ eqb (bit_at w k) 1 ∷ []
unfolding word_bits
word_bits_more w zero = ap (λ r. eqb r 1 ∷ []) (sym (bit_at_lowest w))
word_bits_more w (suc k) =
    let next : suc k + 1 ≡ suc (k + 1) = omega arith in
    ap (word_bits w) next ∙ ap (λ l. eqb (w % 2) 1 ∷ l) (word_bits_more (w / 2) k) ∙ ap (λ r. eqb (w % 2) 1 ∷ (word_bits (w / 2) k ++ eqb r 1 ∷ [])) (sym (bit_at-suc w k))

-- the bits of two numbers, one behind the other
pub word_bits-append : (x a y b : ℕ) → x < 2 ^ a → word_bits (y * 2 ^ a + x) (a + b) ≡ word_bits x a ++ word_bits y b
unfolding word_bits
word_bits-append x zero y b h = ap₂ word_bits (omega arith) (omega arith)
word_bits-append x (suc a) y b h =
    let two : y * 2 ^ suc a ≡ 2 * (y * 2 ^ a) = ap (λ p. y * p) (pow-suc 2 a) ∙ sym (mul_assoc y (2 ^ a) 2) ∙ mul_comm _ 2 in
    let more : suc a + b ≡ suc (a + b) = omega arith in
    let low : (y * 2 ^ suc a + x) % 2 ≡ x % 2 = omega arith in
    let high : (y * 2 ^ suc a + x) / 2 ≡ y * 2 ^ a + x / 2 = omega arith in
    ap (word_bits (y * 2 ^ suc a + x)) more
    ∙ ap₂ (λ u v. eqb u 1 ∷ word_bits v (a + b)) low high
    ∙ ap (λ l. eqb (x % 2) 1 ∷ l) (word_bits-append (x / 2) a y b (omega (arith, pow-suc 2 a)))

-- the bits above the lowest n play no part
pub word_bits_low : (x n : ℕ) → word_bits (x % 2 ^ n) n ≡ word_bits x n
word_bits_low x n =
    sym (append-nil _)
    ∙ sym (ap (λ l. word_bits (x % 2 ^ n) n ++ l) (word_bits-none (x / 2 ^ n)))
    ∙ sym (word_bits-append (x % 2 ^ n) n (x / 2 ^ n) 0 (mod_below x (2 ^ n) (pow_pos n)))
    ∙ ap₂ word_bits (div-add-mod' x (2 ^ n)) (add-zero n)

-- a cut of a word's bits
pub take-word_bits : (x n k : ℕ) → n ≤ k → take n (word_bits x k) ≡ word_bits x n
unfolding word_bits
take-word_bits x zero k h = refl
take-word_bits x (suc n) zero h = absurd (omega arith)
take-word_bits x (suc n) (suc k) h = ap (λ l. eqb (x % 2) 1 ∷ l) (take-word_bits (x / 2) n k (omega arith))

-- ---- words of one kind of bit

pub zero-word_bits : (n : ℕ) → word_bits 0 n ≡ replicate n false
unfolding word_bits
zero-word_bits zero = refl
zero-word_bits (suc n) = ap (λ l. false ∷ l) (zero-word_bits n)

pub full-word_bits : (n : ℕ) → word_bits (2 ^ n - 1) n ≡ replicate n true
unfolding word_bits
full-word_bits zero = refl
full-word_bits (suc n) =
    let p = pow-suc 2 n in
    let pos = pow_pos n in
    let low : (2 ^ suc n - 1) % 2 ≡ 1 = omega arith in
    let high : (2 ^ suc n - 1) / 2 ≡ 2 ^ n - 1 = omega arith in
    ap₂ (λ u v. eqb u 1 ∷ word_bits v n) low high ∙ ap (λ l. true ∷ l) (full-word_bits n)

-- a word whose bits are all set, by its lowest n
pub ones-word_bits : (n k : ℕ) → n ≤ k → word_bits (2 ^ k - 1) n ≡ replicate n true
ones-word_bits n k h = sym (take-word_bits (2 ^ k - 1) n k h) ∙ ap (take n) (full-word_bits k) ∙ take_of_ones n k h
  where
    take_of_ones : (n k : ℕ) → n ≤ k → take n (replicate k true) ≡ replicate n true
    take_of_ones zero k h = refl
    take_of_ones (suc n) zero h = absurd (omega arith)
    take_of_ones (suc n) (suc k) h = ap (λ l. true ∷ l) (take_of_ones n k (omega arith))

-- ---- counts

-- the set bits of a word
pub true_count_of-word_bits : (x n : ℕ) → x < 2 ^ n → true_count_of (word_bits x n) ≡ count_ones x
unfolding word_bits
true_count_of-word_bits x zero h = omega (arith, ones-le 0 x h)
true_count_of-word_bits x (suc n) h = elim (cases_eq (x % 2) 1) [
  | inl e ↦ ap (λ r. true_count_of (eqb r 1 ∷ word_bits (x / 2) n)) e ∙ omega (arith, sum_by-cons (λ bit. cond bit 1 0) true (word_bits (x / 2) n), true_count_of-word_bits (x / 2) n (omega (arith, pow-suc 2 n)), ones_step x)
  | inr e ↦
      let even : x % 2 ≡ 0 = omega arith in
      ap (λ r. true_count_of (eqb r 1 ∷ word_bits (x / 2) n)) even ∙ omega (arith, sum_by-cons (λ bit. cond bit 1 0) false (word_bits (x / 2) n), true_count_of-word_bits (x / 2) n (omega (arith, pow-suc 2 n)), ones_step x)
]

-- ---- numbers of bits

-- the bits of the number that bits spell
pub word_bits-number_of : (bits : List Bool) (k : ℕ) → word_bits (number_of bits) (length bits + k) ≡ bits ++ replicate k false
unfolding word_bits
word_bits-number_of [] k = ap (word_bits 0) (zero-add k) ∙ zero-word_bits k
word_bits-number_of (true ∷ bits) k =
    let n : suc (length bits) + k ≡ suc (length bits + k) = omega arith in
    let low : (1 + 2 * number_of bits) % 2 ≡ 1 = omega arith in
    let high : (1 + 2 * number_of bits) / 2 ≡ number_of bits = omega arith in
    ap (word_bits (1 + 2 * number_of bits)) n ∙ ap₂ (λ u v. eqb u 1 ∷ word_bits v (length bits + k)) low high ∙ ap (λ l. true ∷ l) (word_bits-number_of bits k)
word_bits-number_of (false ∷ bits) k =
    let n : suc (length bits) + k ≡ suc (length bits + k) = omega arith in
    let low : (0 + 2 * number_of bits) % 2 ≡ 0 = omega arith in
    let high : (0 + 2 * number_of bits) / 2 ≡ number_of bits = omega arith in
    ap (word_bits (0 + 2 * number_of bits)) n ∙ ap₂ (λ u v. eqb u 1 ∷ word_bits v (length bits + k)) low high ∙ ap (λ l. false ∷ l) (word_bits-number_of bits k)

-- the number that a word's bits spell
pub number_of-word_bits : (x n : ℕ) → number_of (word_bits x n) ≡ x % 2 ^ n
unfolding word_bits
number_of-word_bits x zero = omega arith
number_of-word_bits x (suc n) =
    let more : n + 1 ≡ suc n = omega arith in
    let parts = ap (λ e. x % 2 ^ e) (sym more) ∙ mod-pow-add x n 1 in
    let below = number_of-word_bits (x / 2) n in
    let digit : cond (eqb (x % 2) 1) 1 0 ≡ x % 2 = digit_of (x % 2) (mod_below x 2 (omega arith)) in
    omega (arith, parts, below, digit)
  where
    digit_of : (d : ℕ) → d < 2 → ◌≡◌ {A = ℕ} (cond (eqb d 1) 1 0) d
    digit_of zero h = refl
    digit_of (suc zero) h = refl
    digit_of (suc (suc d)) h = absurd (omega arith)

-- bits that are those of a word below 2 ^ n spell it
pub number_is : (bits : List Bool) (x n : ℕ) → x < 2 ^ n → bits ≡ word_bits x n → number_of bits ≡ x
number_is bits x n h e = ap number_of e ∙ number_of-word_bits x n ∙ mod-eq_of_lt h
