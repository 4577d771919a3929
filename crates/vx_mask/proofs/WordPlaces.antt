-- Places that are found by words.
use Rattle.std.proofs.Common.{◌≡◌, ℕ, ◌+◌, ◌-◌, ◌*◌, ◌/◌, ◌%◌, ◌^◌, ◌<◌, ◌≤◌, Bool, true, false, not, cond, eqb, List, get_or, bit_and, sym, ap, subst, ◌∙◌, inl, inr, arith, eq-eqb}
use Rattle.std.specs.Int.{bit_at, trailing_zeros, w64}
use Rattle.std.proofs.lemmas.Bool.{cases_lt, cases_eq}
use Rattle.std.proofs.lemmas.Nat.{and_le_r}
use Rattle.std.proofs.lemmas.Nat.Bits.{bit_at-lt, bit_at_and, bit_at_not, bit_at_ones, bit_at_mask_inside, bit_at_mask_below, ones_shl, bit_at-trailing_zeros, bit_at-zero}
use Rattle.vx_bits.proofs.WordLists.{bit_in_word}
use Rattle.vx_bits.specs.Words.{word_at}
use Rattle.vx_mask.specs.Positions.{AllBits}

-- the bits of a list that are `want`, as the bits of a word
abbrev pub wanted_of : ℕ → Bool → ℕ
wanted_of word want = cond want word (2 ^ 64 - 1 - word)

wanted_set : (bits : List Bool) (w i : ℕ) (want : Bool) → i < 64 → word_at bits w < 2 ^ 64 → bit_at (wanted_of (word_at bits w) want) i ≡ 1 → get_or bits (64 * w + i) false ≡ want
wanted_set bits w i true h fits e = sym (bit_in_word bits w i h) ∙ eq-eqb (bit_at (word_at bits w) i) 1 e
wanted_set bits w i false h fits e =
    let none : bit_at (word_at bits w) i ≡ 0 = omega (arith, sym e ∙ bit_at_not w64 (word_at bits w) i fits h, bit_at-lt (word_at bits w) i) in
    sym (bit_in_word bits w i h) ∙ ap (λ n. eqb n 1) none

wanted_clear : (bits : List Bool) (w i : ℕ) (want : Bool) → i < 64 → word_at bits w < 2 ^ 64 → bit_at (wanted_of (word_at bits w) want) i ≡ 0 → get_or bits (64 * w + i) false ≡ not want
wanted_clear bits w i true h fits e = sym (bit_in_word bits w i h) ∙ ap (λ n. eqb n 1) e
wanted_clear bits w i false h fits e =
    let one : bit_at (word_at bits w) i ≡ 1 = omega (arith, sym e ∙ bit_at_not w64 (word_at bits w) i fits h, bit_at-lt (word_at bits w) i) in
    sym (bit_in_word bits w i h) ∙ ap (λ n. eqb n 1) one

-- the bits from `from` on of a word's places
pub record Keeps (from w keep : ℕ) : Type 0 where
  pub after : (i : ℕ) → i < 64 → from ≤ 64 * w + i → bit_at keep i ≡ 1
  pub before : (i : ℕ) → i < 64 → 64 * w + i < from → bit_at keep i ≡ 0

pub keeps_first : (from : ℕ) → Keeps from (from / 64) ((2 ^ 64 - 1) * 2 ^ (from % 64) % 2 ^ 64)
keeps_first from =
    let k = from % 64 in
    let is = ones_shl 64 k (omega arith) in
    record {
      after = λ i p q. ap (λ n. bit_at n i) is ∙ bit_at_mask_inside k 64 i (omega arith) p;
      before = λ i p q. ap (λ n. bit_at n i) is ∙ bit_at_mask_below k 64 i (omega arith);
    }

pub keeps_all : (from w : ℕ) → from ≤ 64 * w → Keeps from w (2 ^ 64 - 1)
keeps_all from w h = record { after = λ i p q. bit_at_ones 64 i p; before = λ i p q. absurd (omega arith) }

-- bits that a word has not are passed
passed_to : (bits : List Bool) (from w keep found n : ℕ) (want : Bool) → word_at bits w < 2 ^ 64 → n ≤ 64 → found ≡ bit_and (wanted_of (word_at bits w) want) keep → Keeps from w keep → ((i : ℕ) → i < n → bit_at found i ≡ 0) → AllBits bits from (64 * w) (not want) → AllBits bits from (64 * w + n) (not want)
passed_to bits from w keep found n want fits short is keeps none passed = λ k p q.
    elim (cases_lt k (64 * w)) [
      | inl earlier ↦ passed k p earlier
      | inr here ↦
          let i = k - 64 * w in
          let place : 64 * w + i ≡ k = omega arith in
          let low : i < n = omega arith in
          let kept = keeps.after i (omega arith) (omega arith) in
          let word = wanted_of (word_at bits w) want in
          let clear : bit_at word i ≡ 0 = omega (arith, sym (none i low) ∙ ap (λ n. bit_at n i) is ∙ bit_at_and word keep i, kept, bit_at-lt word i) in
          sym (ap (λ j. get_or bits j false) place) ∙ wanted_clear bits w i want (omega arith) fits clear
    ]

-- no bit of the word
passed_word : (bits : List Bool) (from w keep found : ℕ) (want : Bool) → word_at bits w < 2 ^ 64 → found ≡ bit_and (wanted_of (word_at bits w) want) keep → Keeps from w keep → found ≡ 0 → AllBits bits from (64 * w) (not want) → AllBits bits from (64 * (w + 1)) (not want)
passed_word bits from w keep found want fits is keeps none passed =
    let next : 64 * w + 64 ≡ 64 * (w + 1) = omega arith in
    subst (λ (n : ℕ). AllBits bits from n (not want)) next (passed_to bits from w keep found 64 want fits (omega arith) is keeps (λ i p. ap (λ n. bit_at n i) none ∙ bit_at-zero i) passed)

-- the lowest bit of the word
pub record IsFound (bits : List Bool) (from w place : ℕ) (want : Bool) : Type 0 where
  pub low : place < 64
  pub after : from ≤ 64 * w + place
  pub set : get_or bits (64 * w + place) false ≡ want
  pub passed : AllBits bits from (64 * w + place) (not want)

found_in : (bits : List Bool) (from w keep found : ℕ) (want : Bool) → word_at bits w < 2 ^ 64 → found < 2 ^ 64 → 0 < found → found ≡ bit_and (wanted_of (word_at bits w) want) keep → Keeps from w keep → AllBits bits from (64 * w) (not want) → IsFound bits from w (trailing_zeros w64 found) want
found_in bits from w keep found want fits small some is keeps passed =
    let place = trailing_zeros w64 found in
    let word = wanted_of (word_at bits w) want in
    let tz = bit_at-trailing_zeros w64 found some small in
    let low : place < 64 = tz.0 in
    let both = sym tz.1 ∙ ap (λ n. bit_at n place) is ∙ bit_at_and word keep place in
    let set : bit_at word place ≡ 1 = omega (arith, both, bit_at-lt word place, bit_at-lt keep place) in
    record {
      low = low;
      after = elim (cases_lt (64 * w + place) from) [
        | inl early ↦ absurd (omega (arith, both, keeps.before place low early))
        | inr late ↦ late
      ];
      set = wanted_set bits w place want low fits set;
      passed = passed_to bits from w keep found place want fits (omega arith) is keeps tz.2 passed;
    }

-- the lowest bit of the word, as the code computes it
pub found_here : (bits : List Bool) (from w keep word wanted : ℕ) (want : Bool) → word ≡ word_at bits w → wanted ≡ wanted_of word want → word < 2 ^ 64 → keep < 2 ^ 64 → (bit_and wanted keep ≡ 0 → ⊥) → Keeps from w keep → AllBits bits from (64 * w) (not want) → IsFound bits from w (trailing_zeros w64 (bit_and wanted keep)) want
found_here bits from w keep word wanted want e f fits small some keeps passed =
    let found = bit_and wanted keep in
    let is = ap (λ n. bit_and n keep) (f ∙ ap (λ n. wanted_of n want) e) in
    found_in bits from w keep found want (omega (arith, e)) (omega (arith, and_le_r wanted keep)) (elim (cases_eq found 0) [ inl none ↦ absurd (some none) | inr more ↦ omega arith ]) is keeps passed

pub passed_here : (bits : List Bool) (from w keep word wanted : ℕ) (want : Bool) → word ≡ word_at bits w → wanted ≡ wanted_of word want → word < 2 ^ 64 → bit_and wanted keep ≡ 0 → Keeps from w keep → AllBits bits from (64 * w) (not want) → AllBits bits from (64 * (w + 1)) (not want)
passed_here bits from w keep word wanted want e f fits none keeps passed =
    let is = ap (λ n. bit_and n keep) (f ∙ ap (λ n. wanted_of n want) e) in
    passed_word bits from w keep (bit_and wanted keep) want (omega (arith, e)) is keeps none passed
