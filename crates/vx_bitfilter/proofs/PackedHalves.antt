-- What a word packs, by its lowest bit and the others.
use Rattle.std.proofs.Common.{◌≡◌, ℕ, zero, suc, ◌+◌, ◌-◌, ◌*◌, ◌/◌, ◌%◌, ◌^◌, ◌<◌, ◌≤◌, min, eqb, ◌∷◌, bit_and, inl, inr, refl, sym, ap, ap₂, ◌∙◌, arith}
use Rattle.std.specs.Int.RustNames.{count_ones}
use Rattle.std.specs.List.{items_where_true}
use Rattle.std.proofs.lemmas.Bool.{cases_eq}
use Rattle.std.proofs.lemmas.Nat.{and_le_r, ones_le_self}
use Rattle.std.proofs.lemmas.Nat.Bits.{ones_shr}
use Rattle.std.proofs.Math.Nat.{pow-suc}
use lib.Bits.{and_step}
use lib.Count.{ones_step, ones-le}
use Rattle.vx_bits.specs.BitBuffer.{number_of}
use Rattle.vx_bits.specs.Words.{word_bits}
use Rattle.vx_bitfilter.specs.Pext.{pext}
use Rattle.vx_lemmas.proofs.Numbers.{digit_test}

-- the number of the bits that the lowest n of `mask` pick
abbrev pub packed_of : ℕ → ℕ → ℕ → ℕ
packed_of n src mask = number_of (items_where_true (word_bits mask n) (word_bits src n))

-- by its lowest bit and the others, where that is picked
pub packed_odd : (n src mask : ℕ) → mask % 2 ≡ 1 → packed_of (suc n) src mask ≡ src % 2 + 2 * packed_of n (src / 2) (mask / 2)
unfolding word_bits
packed_odd n src mask e =
    ap (λ r. number_of (items_where_true (eqb r 1 ∷ word_bits (mask / 2) n) (eqb (src % 2) 1 ∷ word_bits (src / 2) n))) e
    ∙ ap (λ d. d + 2 * packed_of n (src / 2) (mask / 2)) (digit_test (src % 2) (omega arith))

-- where it isn't
pub packed_even : (n src mask : ℕ) → mask % 2 ≡ 0 → packed_of (suc n) src mask ≡ packed_of n (src / 2) (mask / 2)
unfolding word_bits
packed_even n src mask e = ap (λ r. number_of (items_where_true (eqb r 1 ∷ word_bits (mask / 2) n) (eqb (src % 2) 1 ∷ word_bits (src / 2) n))) e

-- bits that aren't picked play no part
pub only_picked : (n src mask : ℕ) → packed_of n (bit_and src mask) mask ≡ packed_of n src mask
unfolding word_bits
only_picked zero src mask = refl
only_picked (suc n) src mask =
    let both = bit_and src mask in
    let step = and_step src mask in
    let half : both / 2 ≡ bit_and (src / 2) (mask / 2) = omega (arith, step) in
    let low : both % 2 ≡ min (src % 2) (mask % 2) = omega (arith, step) in
    let smaller = ap (λ x. packed_of n x (mask / 2)) half ∙ only_picked n (src / 2) (mask / 2) in
    elim (cases_eq (mask % 2) 1) [
      | inl e ↦
          let same : both % 2 ≡ src % 2 = omega (arith, low, e) in
          packed_odd n both mask e ∙ ap₂ (λ u v. u + 2 * v) same smaller ∙ sym (packed_odd n src mask e)
      | inr e ↦
          let none : mask % 2 ≡ 0 = omega arith in
          packed_even n both mask none ∙ smaller ∙ sym (packed_even n src mask none)
    ]

-- no bit packs to 0
pub packed_none : (n mask : ℕ) → packed_of n 0 mask ≡ 0
unfolding word_bits
packed_none zero mask = refl
packed_none (suc n) mask = elim (cases_eq (mask % 2) 1) [
  | inl e ↦ omega (arith, packed_odd n 0 mask e, packed_none n (mask / 2))
  | inr e ↦ let none : mask % 2 ≡ 0 = omega arith in packed_even n 0 mask none ∙ packed_none n (mask / 2)
]

-- where all are picked, that is the word
pub packed_all : (n src : ℕ) → src < 2 ^ n → packed_of n src (2 ^ n - 1) ≡ src
unfolding word_bits
packed_all zero src h = omega arith
packed_all (suc n) src h =
    let two = pow-suc 2 n in
    let all = 2 ^ suc n - 1 in
    let low : all % 2 ≡ 1 = omega (arith, two) in
    let half : all / 2 ≡ 2 ^ n - 1 = omega (arith, two) in
    omega (arith, packed_odd n src all low, ap (λ m. packed_of n (src / 2) m) half, packed_all n (src / 2) (omega (arith, h, two)))

-- a word's clear bits pack to what its set ones leave clear
flipped_packed : (n src other mask : ℕ) → other + src + 1 ≡ 2 ^ n → mask < 2 ^ n → packed_of n other mask + packed_of n src mask + 1 ≡ 2 ^ count_ones mask
unfolding word_bits
flipped_packed zero src other mask e h =
    let none : mask ≡ 0 = omega arith in
    let ones : count_ones mask ≡ 0 = ap count_ones none ∙ omega (arith, ones-le 0 0 (omega arith)) in
    sym (ap (λ k. 2 ^ k) ones)
flipped_packed (suc n) src other mask e h =
    let two = pow-suc 2 n in
    let half : other / 2 + src / 2 + 1 ≡ 2 ^ n = omega (arith, e, two) in
    let bits : other % 2 + src % 2 ≡ 1 = omega (arith, e, two) in
    let smaller = flipped_packed n (src / 2) (other / 2) (mask / 2) half (omega (arith, h, two)) in
    let count = count_ones (mask / 2) in
    elim (cases_eq (mask % 2) 1) [
      | inl one ↦
          let next : count_ones mask ≡ suc count = omega (arith, ones_step mask, one) in
          let up : 2 ^ count_ones mask ≡ 2 ^ count * 2 = ap (λ k. 2 ^ k) next ∙ pow-suc 2 count in
          omega (arith, packed_odd n other mask one, packed_odd n src mask one, bits, smaller, up)
      | inr e ↦
          let none : mask % 2 ≡ 0 = omega arith in
          let same : count_ones mask ≡ count = omega (arith, ones_step mask, none) in
          omega (arith, packed_even n other mask none, packed_even n src mask none, smaller, ap (λ k. 2 ^ k) same)
    ]

-- as many ones as there are picks, without what the clear bits pack to
pub record IsFlipped (src mask ones other : ℕ) : Type 0 where
  pub less : other ≤ ones
  pub value : ones - other ≡ pext src mask

pub flipped : (src mask ones other : ℕ) → src < 2 ^ 64 → mask < 2 ^ 64 → ones ≡ (2 ^ 64 - 1) / 2 ^ (64 - count_ones mask) → other ≡ pext (2 ^ 64 - 1 - src) mask → IsFlipped src mask ones other
unfolding pext
flipped src mask ones other fits small e f =
    let count = count_ones mask in
    let few : count ≤ 64 = ones-le 64 mask small in
    let whole : 64 - (64 - count) ≡ count = omega (arith, few) in
    let is : ones ≡ 2 ^ count - 1 = e ∙ ones_shr 64 (64 - count) (omega arith) ∙ ap (λ k. 2 ^ k - 1) whole in
    let sum = flipped_packed 64 src (2 ^ 64 - 1 - src) mask (omega (arith, fits)) small in
    record { less = omega (arith, is, sum, f); value = omega (arith, is, sum, f) }

-- ---- how many bits are set

-- a word and its flipped one have a bit for each place
pub flipped_ones : (n a b : ℕ) → a + b + 1 ≡ 2 ^ n → count_ones a + count_ones b ≡ n
flipped_ones zero a b e = omega (arith, e, ones_le_self a, ones_le_self b)
flipped_ones (suc n) a b e =
    let two = pow-suc 2 n in
    omega (arith, e, two, ones_step a, ones_step b, flipped_ones n (a / 2) (b / 2) (omega (arith, e, two)))

-- fewer of the picked ones are set
pub fewer_ones : (n a b : ℕ) → b < 2 ^ n → count_ones (bit_and a b) ≤ count_ones b
fewer_ones zero a b h = omega (arith, h, and_le_r a b, ones_le_self (bit_and a b))
fewer_ones (suc n) a b h =
    let both = bit_and a b in
    let step = and_step a b in
    let half : both / 2 ≡ bit_and (a / 2) (b / 2) = omega (arith, step) in
    omega (arith, step, ones_step both, ap count_ones half, ones_step b, fewer_ones n (a / 2) (b / 2) (omega (arith, h, pow-suc 2 n)))
