-- Where the runs of bits start, and how many there are.
use Rattle.std.proofs.Common.{◌≡◌, ℕ, zero, suc, ◌+◌, ◌*◌, ◌/◌, ◌%◌, ◌^◌, ◌<◌, ◌≤◌, Bool, true, false, ◌&&◌, cond, eqb, not, List, [], ◌∷◌, ◌++◌, length, take, drop, replicate, bit_and, bit_or, bit_xor, refl, sym, ap, ap₂, ◌∙◌, arith}
use Rattle.std.specs.Int.{bit_at}
use Rattle.std.proofs.lemmas.List.{take-append-drop}
use Rattle.std.proofs.lemmas.List.Sums.{sum_by-append}
use Rattle.std.proofs.lemmas.Nat.{and_mask, and_mod, and_shr, or_shifted, xor_mod, xor_shr}
use Rattle.std.proofs.lemmas.Nat.Bits.{shr_and_one}
use Rattle.std.proofs.Math.Nat.{mod-eq_of_lt}
use Rattle.vx_bits.specs.BitBuffer.{true_count_of}
use Rattle.vx_bits.specs.Words.{word_bits}
use Rattle.vx_bits.proofs.WordBits.{word_bits_low, word_bits_more}
use Rattle.vx_filter.specs.Compact.{bits_of_words}
use Rattle.vx_mask.specs.Positions.{maximal_runs, runs_from}
use Rattle.vx_mask.proofs.PositionLists.{true_count_of-cons, true_count_of-clear}
use Rattle.vx_mask.proofs.RunLists.{runs_from-set}
use Rattle.vx_words.specs.Runs.{rows_of, starts}
use Rattle.vx_words.proofs.MaskWords.{IsMask}
use Rattle.vx_bits.proofs.WordLists.{no_bits}

-- ---- as many as there are runs

-- from a clear bit on, and from within a run on
record Counted (bits : List Bool) : Type 0 where
  pub closed : (at : ℕ) → length (runs_from at bits) ≡ true_count_of (starts false bits)
  pub opened : (s n : ℕ) → length (runs_from s (replicate (suc n) true ++ bits)) ≡ suc (true_count_of (starts true bits))

pub one_more : (n : ℕ) (bits : List Bool) → replicate (suc n) true ++ true ∷ bits ≡ replicate (suc (suc n)) true ++ bits
one_more zero bits = refl
one_more (suc n) bits = ap (λ l. true ∷ l) (one_more n bits)

counted : (bits : List Bool) → Counted bits
counted [] = record { closed = λ at. refl; opened = λ s n. ap length (runs_from-set s n [] refl) }
counted (true ∷ bits) =
    let more = counted bits in
    record {
      closed = λ at. omega (arith, more.opened at 0, true_count_of-cons true (starts true bits));
      opened = λ s n. ap (λ l. length (runs_from s l)) (one_more n bits) ∙ more.opened s (suc n)
          ∙ ap suc (sym (true_count_of-clear (starts true bits)));
    }
counted (false ∷ bits) =
    let more = counted bits in
    record {
      closed = λ at. more.closed (at + 1) ∙ sym (true_count_of-clear (starts false bits));
      opened = λ s n. ap length (runs_from-set s n (false ∷ bits) refl)
          ∙ ap suc (more.closed (s + suc n + 1) ∙ sym (true_count_of-clear (starts false bits)));
    }

-- a start is a set bit
starts_few : (last : Bool) (bits : List Bool) → true_count_of (starts last bits) ≤ true_count_of bits
starts_few last [] = omega arith
starts_few true (true ∷ bits) = omega (arith, starts_few true bits, true_count_of-cons true bits, true_count_of-clear (starts true bits))
starts_few false (true ∷ bits) = omega (arith, starts_few true bits, true_count_of-cons true bits, true_count_of-cons true (starts true bits))
starts_few last (false ∷ bits) = omega (arith, starts_few false bits, true_count_of-clear bits, true_count_of-clear (starts false bits))

no_starts : (last : Bool) (n : ℕ) → true_count_of (starts last (replicate n false)) ≡ 0
no_starts last zero = refl
no_starts last (suc n) = true_count_of-clear (starts false (replicate n false)) ∙ no_starts false n

-- ---- one list behind the other

-- the last bit
abbrev pub last_of : Bool → List Bool → Bool
last_of last [] = last
last_of last (bit ∷ bits) = last_of bit bits

starts-append : (last : Bool) (xs ys : List Bool) → starts last (xs ++ ys) ≡ starts last xs ++ starts (last_of last xs) ys
starts-append last [] ys = refl
starts-append last (x ∷ xs) ys = ap (λ l. (x && not last) ∷ l) (starts-append x xs ys)

last_of-append : (last : Bool) (xs : List Bool) (y : Bool) → last_of last (xs ++ y ∷ []) ≡ y
last_of-append last [] y = refl
last_of-append last (x ∷ xs) y = last_of-append x xs y

last_of-joined : (last : Bool) (xs ys : List Bool) → last_of last (xs ++ ys) ≡ last_of (last_of last xs) ys
last_of-joined last [] ys = refl
last_of-joined last (x ∷ xs) ys = last_of-joined x xs ys

count-append : (xs ys : List Bool) → true_count_of (xs ++ ys) ≡ true_count_of xs + true_count_of ys
count-append xs ys = sum_by-append (λ bit. cond bit 1 0) xs ys

-- ---- words

one_digit : (a c : ℕ) → a < 2 → c < 2 → eqb (bit_and (bit_xor a c) a) 1 ≡ (eqb a 1 && not (eqb c 1))
one_digit zero zero p q = refl
one_digit zero (suc zero) p q = refl
one_digit (suc zero) zero p q = refl
one_digit (suc zero) (suc zero) p q = refl
one_digit (suc (suc a)) c p q = absurd (omega arith)
one_digit zero (suc (suc c)) p q = absurd (omega arith)
one_digit (suc zero) (suc (suc c)) p q = absurd (omega arith)

word_starts : (n w c : ℕ) → c < 2 → word_bits (bit_and (bit_xor w (2 * w + c)) w) n ≡ starts (eqb c 1) (word_bits w n)
unfolding word_bits
word_starts zero w c h = refl
word_starts (suc n) w c h =
    let x = bit_xor w (2 * w + c) in
    let digit : (2 * w + c) % 2 ≡ c = omega (arith, h) in
    let whole : (2 * w + c) / 2 ≡ 2 * (w / 2) + w % 2 = omega (arith, h) in
    let low : bit_and x w % 2 ≡ bit_and (bit_xor (w % 2) c) (w % 2) =
    and_mod x w 1 ∙ ap (λ y. bit_and y (w % 2)) (xor_mod w (2 * w + c) 1 ∙ ap (bit_xor (w % 2)) digit) in
    let high : bit_and x w / 2 ≡ bit_and (bit_xor (w / 2) (2 * (w / 2) + w % 2)) (w / 2) =
    and_shr x w 1 ∙ ap (λ y. bit_and y (w / 2)) (xor_shr w (2 * w + c) 1 ∙ ap (bit_xor (w / 2)) whole) in
    ap₂ (λ b l. eqb b 1 ∷ l) low (ap (λ y. word_bits y n) high ∙ word_starts n (w / 2) (w % 2) (omega arith))
    ∙ ap (λ b. b ∷ starts (eqb (w % 2) 1) (word_bits (w / 2) n)) (one_digit (w % 2) c (omega arith) h)

-- what the code computes of a word and the one before it
pub marks_is : (word before : ℕ) → word < 2 ^ 64 → before < 2 ^ 64 → bit_xor word (bit_or (word * 2 ^ 1 % 2 ^ 64) (before / 2 ^ 63)) ≡ bit_xor word (2 * word + before / 2 ^ 63) % 2 ^ 64
marks_is word before fits small =
    let c = before / 2 ^ 63 in
    let bit : c < 2 = omega arith in
    let all = 2 * word + c in
    let up : word * 2 ^ 1 % 2 ^ 64 ≡ word % 2 ^ 63 * 2 ^ 1 = omega arith in
    let joined : bit_or (word * 2 ^ 1 % 2 ^ 64) c ≡ all % 2 ^ 64 =
    ap (λ x. bit_or x c) up ∙ or_shifted (word % 2 ^ 63) 1 c bit ∙ omega (arith, bit) in
    ap₂ bit_xor (sym (mod-eq_of_lt fits)) joined ∙ sym (xor_mod word all 64)

pub last_is : (before : ℕ) → before < 2 ^ 64 → before / 2 ^ 63 ≡ bit_at before 63
last_is before small =
    let c = before / 2 ^ 63 in
    let bit : c < 2 = omega arith in
    sym (mod-eq_of_lt bit) ∙ sym (and_mask c 1) ∙ shr_and_one before 63

pub starts_is : (word before marks : ℕ) → word < 2 ^ 64 → before < 2 ^ 64 → marks ≡ bit_xor word (2 * word + before / 2 ^ 63) % 2 ^ 64 → word_bits (bit_and marks word) 64 ≡ starts (eqb (bit_at before 63) 1) (word_bits word 64)
starts_is word before marks fits small is =
    let c = before / 2 ^ 63 in
    let bit : c < 2 = omega arith in
    let all = bit_xor word (2 * word + c) in
    let cut : bit_and marks word ≡ bit_and all word % 2 ^ 64 = ap₂ bit_and is (sym (mod-eq_of_lt fits)) ∙ sym (and_mod all word 64) in
    ap (λ x. word_bits x 64) cut ∙ word_bits_low (bit_and all word) 64 ∙ word_starts 64 word c bit
    ∙ ap (λ b. starts (eqb b 1) (word_bits word 64)) (last_is before small)

-- a word's last bit
pub last_of_word : (last : Bool) (word : ℕ) → last_of last (word_bits word 64) ≡ eqb (bit_at word 63) 1
last_of_word last word =
    ap (last_of last) (word_bits_more word 63) ∙ last_of-append last (word_bits word 63) (eqb (bit_at word 63) 1)

-- the starts of some bits and of a word behind them
pub record IsFurther (bits more : List Bool) (word before set : ℕ) : Type 0 where
  pub count : true_count_of (starts false more) ≡ true_count_of (starts false bits) + set
  pub last : eqb (bit_at word 63) 1 ≡ last_of false more

pub further : (bits more : List Bool) (word before found set : ℕ) → more ≡ bits ++ word_bits word 64 → eqb (bit_at before 63) 1 ≡ last_of false bits → found < 2 ^ 64 → word_bits found 64 ≡ starts (eqb (bit_at before 63) 1) (word_bits word 64) → true_count_of (word_bits found 64) ≡ set → IsFurther bits more word before set
further bits more word before found set e last fits is set_is =
    record {
      count = ap (λ l. true_count_of (starts false l)) e ∙ ap true_count_of (starts-append false bits (word_bits word 64))
          ∙ count-append (starts false bits) (starts (last_of false bits) (word_bits word 64))
          ∙ ap (λ n. true_count_of (starts false bits) + n) (ap (λ b. true_count_of (starts b (word_bits word 64))) (sym last) ∙ ap true_count_of (sym is) ∙ set_is);
      last = sym (ap (last_of false) e ∙ last_of-joined false bits (word_bits word 64)
          ∙ last_of_word (last_of false bits) word);
    }

pub few_starts : (bits : List Bool) → true_count_of (starts false bits) ≤ true_count_of bits
few_starts bits = starts_few false bits

-- all starts are as many as the runs of the rows
pub all_counted : (rows : ℕ) (words : List ℕ) → IsMask rows words → true_count_of (starts false (bits_of_words words)) ≡ length (maximal_runs (rows_of words rows))
all_counted rows words mask =
    let bits = bits_of_words words in
    let front = take rows bits in
    let clear = replicate (length (drop rows bits)) false in
    let both : bits ≡ front ++ clear = sym (take-append-drop rows bits) ∙ ap (λ l. front ++ l) (no_bits (drop rows bits) mask.none) in
    let cut = ap (λ l. true_count_of (starts false l)) both ∙ ap true_count_of (starts-append false front clear) ∙ count-append (starts false front) (starts (last_of false front) clear) in
    omega (arith, cut, no_starts (last_of false front) (length (drop rows bits)), (counted front).closed 0)
