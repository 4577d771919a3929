-- The first and the last set bit of a list, found by words.
use Rattle.std.proofs.Common.{◌≡◌, ℕ, zero, suc, ◌+◌, ◌-◌, ◌*◌, ◌/◌, ◌^◌, ◌<◌, ◌≤◌, Bool, true, false, ltb, eqb, cond, Some, None, List, [], ◌∷◌, length, get_or, drop, position, refl, sym, ap, ◌∙◌, inl, inr, arith}
use Rattle.std.specs.Int.{bit_at, trailing_zeros, w64, div_ceil}
use Rattle.std.specs.List.{position_or_len, slice_get}
use Rattle.std.proofs.lemmas.Bool.{cases_eq, cases_lt}
use Rattle.std.proofs.lemmas.List.{get_or-drop, get_or_past, length-drop}
use Rattle.std.proofs.lemmas.List.Sums.{position_or_len_is, sum_by-cons}
use Rattle.std.proofs.lemmas.Nat.{pow-add, shr_high}
use Rattle.std.proofs.lemmas.Nat.Bits.{bit_at-trailing_zeros, bit_at-zero, bit_at_above}
use Rattle.vx_bits.specs.BitBuffer.{IsLastSet, true_count_of}
use Rattle.vx_bits.specs.Words.{word_at}
use Rattle.vx_bits.proofs.WordLists.{bit_in_word, word_at_below}

-- no bit from `from` up to `end` is set
pub record IsClear (bits : List Bool) (from end : ℕ) : Type 0 where
  pub clear : (k : ℕ) → from ≤ k → k < end → get_or bits k false ≡ false

pub clear_none : (bits : List Bool) (from end : ℕ) → end ≤ from → IsClear bits from end
clear_none bits from end h = record { clear = λ k p q. absurd (omega arith) }

-- a clear bit of a word is a clear bit of the list
clear_in_word : (bits : List Bool) (i word k : ℕ) → word ≡ word_at bits i → k < 64 → bit_at word k ≡ 0 → get_or bits (64 * i + k) false ≡ false
clear_in_word bits i word k e h z = sym (bit_in_word bits i k h) ∙ ap (λ w. eqb (bit_at w k) 1) (sym e) ∙ ap (λ n. eqb n 1) z

set_in_word : (bits : List Bool) (i word k : ℕ) → word ≡ word_at bits i → k < 64 → bit_at word k ≡ 1 → get_or bits (64 * i + k) false ≡ true
set_in_word bits i word k e h z = sym (bit_in_word bits i k h) ∙ ap (λ w. eqb (bit_at w k) 1) (sym e) ∙ ap (λ n. eqb n 1) z

-- a word of 0 has no set bit
clear_word : (bits : List Bool) (i word j : ℕ) → word ≡ word_at bits i → word ≡ 0 → 64 * i ≤ j → j < 64 * i + 64 → get_or bits j false ≡ false
clear_word bits i word j e z p q =
    let k = j - 64 * i in
    let place : 64 * i + k ≡ j = omega arith in
    sym (ap (λ n. get_or bits n false) place) ∙ clear_in_word bits i word k e (omega arith) (ap (λ w. bit_at w k) z ∙ bit_at-zero k)

pub clear_behind : (bits : List Bool) (i word : ℕ) → word ≡ word_at bits i → word ≡ 0 → IsClear bits 0 (64 * i) → IsClear bits 0 (64 * (i + 1))
clear_behind bits i word e z before = record {
  clear = λ k p q.
      elim (cases_lt k (64 * i)) [
        | inl low ↦ before.clear k p low
        | inr high ↦ clear_word bits i word k e z high (omega arith)
      ];
}

pub clear_before : (bits : List Bool) (i next end word : ℕ) → next ≡ i + 1 → word ≡ word_at bits i → word ≡ 0 → IsClear bits (64 * next) end → IsClear bits (64 * i) end
clear_before bits i next end word same e z behind = record {
  clear = λ k p q.
      elim (cases_lt k (64 * i + 64)) [
        | inl low ↦ clear_word bits i word k e z p low
        | inr high ↦ behind.clear k (omega arith) q
      ];
}

-- a bit that is set is within
within_set : (bits : List Bool) (i : ℕ) → get_or bits i false ≡ true → i < length bits
within_set bits i e = elim (cases_lt i (length bits)) [
  | inl h ↦ h
  | inr past ↦ absurd (different (sym (get_or_past bits i false past) ∙ e))
]
  where
    different : false ≡ true → ⊥
    different h = cc

-- ---- the first one

pub first_none : (bits : List Bool) (words : ℕ) → words ≡ div_ceil (length bits) 64 → IsClear bits 0 (64 * words) → None ≡ position (λ bit. bit) bits
first_none bits words h before =
    let is : position_or_len (λ bit. bit) bits ≡ length bits = position_or_len_is (λ bit. bit) bits (length bits) false (omega arith) (λ k p. before.clear k (omega arith) (omega arith)) (λ p. absurd (omega arith)) in
    sym (ap (λ n. cond (ltb n (length bits)) (Some n) None) is ∙ grind arith)

pub first_here : (bits : List Bool) (i word : ℕ) → word ≡ word_at bits i → (word ≡ 0 → ⊥) → IsClear bits 0 (64 * i) → Some (64 * i + trailing_zeros w64 word) ≡ position (λ bit. bit) bits
first_here bits i word e some before =
    let t = trailing_zeros w64 word in
    let p = 64 * i + t in
    let fits : word < 2 ^ 64 = omega (arith, e, word_at_below bits i) in
    let pos : 0 < word = elim (cases_eq word 0) [ inl z ↦ absurd (some z) | inr more ↦ omega arith ] in
    let lowest = bit_at-trailing_zeros w64 word pos fits in
    let short : t < 64 = lowest.0 in
    let here = set_in_word bits i word t e short lowest.1 in
    let inside = within_set bits p here in
    let is : position_or_len (λ bit. bit) bits ≡ p = position_or_len_is (λ bit. bit) bits p false (omega arith) (λ k q.
    elim (cases_lt k (64 * i)) [
      | inl low ↦ before.clear k (omega arith) low
      | inr high ↦
          let j = k - 64 * i in
          let place : 64 * i + j ≡ k = omega arith in
          sym (ap (λ n. get_or bits n false) place) ∙ clear_in_word bits i word j e (omega arith) (lowest.2 j (omega arith))
    ]) (λ q. here) in
    sym (ap (λ n. cond (ltb n (length bits)) (Some n) None) is ∙ grind arith)

-- ---- the last one

none_set : (bits : List Bool) → ((k : ℕ) → k < length bits → get_or bits k false ≡ false) → true_count_of bits ≡ 0
none_set [] h = refl
none_set (true ∷ bits) h = let no : true ≡ false = h 0 (omega arith) in cc
none_set (false ∷ bits) h = omega (arith, sum_by-cons (λ bit. cond bit 1 0) false bits, none_set bits (λ k p. h (suc k) (omega arith)))

pub last_none : (bits : List Bool) (from : ℕ) → from ≡ 0 → IsClear bits from (length bits) → true_count_of bits ≡ 0
last_none bits from e all = none_set bits (λ k p. all.clear k (omega arith) p)

got : (bits : List Bool) (i : ℕ) → get_or bits i false ≡ true → slice_get bits i ≡ Some true
got [] i h = let no : false ≡ true = h in cc
got (b ∷ bits) zero h = ap Some h
got (b ∷ bits) (suc i) h = got bits i h

pub last_here : (bits : List Bool) (i word next r : ℕ) → next ≡ i + 1 → word ≡ word_at bits i → 2 ^ r ≤ word → word < 2 * 2 ^ r → r < 64 → IsClear bits (64 * next) (length bits) → IsLastSet bits (64 * i + r)
last_here bits i word next r same e low high short behind =
    let p = 64 * i + r in
    let rest = word - 2 ^ r in
    let whole : word ≡ 1 * 2 ^ r + rest = omega arith in
    let top : word / 2 ^ r ≡ 1 = ap (λ n. n / 2 ^ r) whole ∙ shr_high 1 r rest (omega arith) in
    let one : bit_at word r ≡ 1 = omega (arith, top) in
    let next_power : word < 2 ^ (r + 1) = omega (arith, pow-add 2 r 1) in
    record {
      set = got bits p (set_in_word bits i word r e short one);
      last = none_set (drop (p + 1) bits) (λ k q.
          let j = p + 1 + k in
          let inside : j < length bits = omega (arith, length-drop (p + 1) bits) in
          get_or-drop (p + 1) bits k false
          ∙ elim (cases_lt j (64 * i + 64)) [
            | inl here ↦
                let m = r + 1 + k in
                let place : 64 * i + m ≡ j = omega arith in
                sym (ap (λ n. get_or bits n false) place) ∙ clear_in_word bits i word m e (omega arith) (bit_at_above word (r + 1) m next_power (omega arith))
            | inr beyond ↦ behind.clear j (omega arith) inside
          ]);
    }
