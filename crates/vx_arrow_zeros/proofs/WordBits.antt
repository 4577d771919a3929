-- The bits of a word, and of the word without one of them.
use Rattle.std.proofs.Common.{◌≡◌, ℕ, zero, suc, ◌+◌, ◌-◌, ◌*◌, ◌/◌, ◌%◌, ◌^◌, ◌<◌, ◌≤◌, ◌≢◌, true, false, ◌||◌, eqb, List, get_or, bit_and, refl, sym, ap, ◌∙◌, arith, inl, inr}
use Rattle.std.specs.Int.{bit_at, bit_not, w64}
use Rattle.std.proofs.Math.Nat.{mul-le-mul_right}
use Rattle.std.proofs.lemmas.Bool.{cases_eq}
use Rattle.std.proofs.lemmas.Nat.{and_le_l, shr-shr}
use Rattle.std.proofs.lemmas.Nat.Bits.{bit_at_and, bit_at_clear_other, bit_at_clear_same, bit_at-lt, bit_at_not, bit_at_ones}
use Rattle.vx_arrow_image.specs.Image.{bit_of}
use Rattle.vx_bits.specs.BitBuffer.{bits_of}
use Rattle.vx_bits.specs.Words.{word_bits}
use Rattle.vx_bits.proofs.BitLists.{bit_in}
use Rattle.vx_bits.proofs.WordBits.{get_or-word_bits}

-- bit k of a byte of a word
pub byte_bit : (w s t k : ℕ) → t ≡ s → k < 8 → bit_at (bit_and (w / 2 ^ t) 255) k ≡ bit_at w (s + k)
byte_bit w s t k e h =
    let shifted : bit_at (w / 2 ^ t) k ≡ bit_at w (s + k) = ap (λ x. x % 2) (shr-shr w t k) ∙ ap (λ x. bit_at w (x + k)) e in
    let few = bit_at-lt (w / 2 ^ t) k in
    let ones : bit_at 255 k ≡ 1 = bit_at_ones 8 k h in
    bit_at_and (w / 2 ^ t) 255 k ∙ omega (arith, ones, few) ∙ shifted

-- a word that eight bytes have
pub word_bit : (bytes : List ℕ) (place word k n : ℕ) → word_bits word 64 ≡ bits_of bytes place 64 → place ≡ n → k < 64 → eqb (bit_at word k) 1 ≡ bit_of bytes (n + k)
word_bit bytes place word k n e at h =
    sym (get_or-word_bits word 64 k false h) ∙ ap (λ l. get_or l k false) e ∙ bit_in bytes place 64 k false h ∙ ap (λ p. bit_of bytes (p + k)) at

-- of two opposite bits one is set
either : (a b : ℕ) → a < 2 → b ≡ 1 - a → (eqb a 1 || eqb b 1) ≡ true
either zero b h e = ap (λ x. eqb x 1) e
either (suc zero) b h e = refl
either (suc (suc a)) b h e = absurd (omega arith)

pub or_not : (w k : ℕ) → w < 2 ^ 64 → k < 64 → (eqb (bit_at w k) 1 || eqb (bit_at (bit_not w64 w) k) 1) ≡ true
or_not w k fits h = either (bit_at w k) (bit_at (bit_not w64 w) k) (bit_at-lt w k) (bit_at_not w64 w k fits h)

pub not_apart : (w k : ℕ) → w < 2 ^ 64 → k < 64 → bit_at (bit_not w64 w) k ≡ 1 → bit_at w k ≡ 0
not_apart w k fits h one = let e = bit_at_not w64 w k fits h in omega (arith, e, one, bit_at-lt w k)

-- the word without a set bit
module _ (w left t : ℕ) (within : t < 64) (set : bit_at left t ≡ 1) (apart : (k : ℕ) → k < 64 → bit_at left k ≡ 1 → bit_at w k ≡ 0) where
  abbrev pub rest : ℕ
  rest = bit_and left (bit_not w64 (1 * 2 ^ t % 2 ^ 64))

  own : bit_at rest t ≡ 0
  own = bit_at_clear_same w64 left t within

  pub fewer : rest < left
  fewer =
      let most = and_le_l left (bit_not w64 (1 * 2 ^ t % 2 ^ 64)) in
      elim (cases_eq rest left) [
        | inl e ↦ absurd (let same = ap (λ x. bit_at x t) e in omega (arith, own, set, same))
        | inr ne ↦ omega (arith, most, ne)
      ]

  pub cleared_bit : (eqb (bit_at w t) 1 || eqb (bit_at rest t) 1) ≡ false
  cleared_bit = ap (λ x. eqb x 1 || eqb (bit_at rest t) 1) (apart t within set) ∙ ap (λ x. eqb x 1) own

  pub other_bits : (k : ℕ) → k < 64 → k ≢ t → (eqb (bit_at w k) 1 || eqb (bit_at rest k) 1) ≡ (eqb (bit_at w k) 1 || eqb (bit_at left k) 1)
  other_bits k h ne = ap (λ x. eqb (bit_at w k) 1 || eqb x 1) (bit_at_clear_other w64 left t within k h ne)

  pub still_apart : (k : ℕ) → k < 64 → bit_at rest k ≡ 1 → bit_at w k ≡ 0
  still_apart k h one =
      elim (cases_eq k t) [
        | inl e ↦ absurd (let same = ap (λ x. bit_at rest x) e in omega (arith, own, one, same))
        | inr ne ↦ apart k h (sym (bit_at_clear_other w64 left t within k h ne) ∙ one)
      ]

-- a row lies before the end of all rows
pub row_room : (start t w n len : ℕ) → t < n → start + n * w ≤ len → start + t * w + w ≤ len
row_room start t w n len low room = let e : (t + 1) * w ≤ n * w = mul-le-mul_right w (omega arith) in omega arith
