-- Bits that move up to the clear positions of a mask.
use Rattle.std.proofs.Common.{◌≡◌, ℕ, zero, suc, ◌+◌, ◌-◌, ◌*◌, ◌/◌, ◌%◌, ◌^◌, ◌<◌, bit_and, inl, inr, sym, ap, ap₂, ◌∙◌, arith, mul-div_cancel}
use Rattle.std.specs.Int.{bit_at, w64}
use Rattle.std.specs.Int.RustNames.{count_ones}
use Rattle.std.proofs.lemmas.Bool.{cases_lt}
use Rattle.std.proofs.lemmas.Nat.{and_mask, mod-pow-add, ones_le_self, pow_pos, zero_from_ones}
use Rattle.std.proofs.lemmas.Nat.Bits.{bit_at_above, bit_at_and, bit_at-lt, bit_at_lowest, bit_at_not, bit_at-suc, bit_at-trailing_zeros}
use Rattle.std.proofs.Math.Nat.{pow-suc}
use lib.Count.{count_trailing_zeros}
use Rattle.vx_bits.proofs.WordLists.{one_less}
use Rattle.vx_bitfilter.specs.Pext.{pext}
use Rattle.vx_bitfilter.proofs.PackedHalves.{flipped_ones, packed_of, packed_odd, packed_even, only_picked, packed_all}
use Rattle.vx_bitfilter.proofs.PickRanks.{lowest}

-- ---- the bits below place t move up by one, into a clear bit, and bit b comes in below them

abbrev raised : ℕ → ℕ → ℕ → ℕ
raised t x b = x + x % 2 ^ t + b

-- the lowest bit and the others, where t is above the lowest one
record IsHalved (t x b : ℕ) : Type 0 where
  low : raised (suc t) x b % 2 ≡ b
  high : raised (suc t) x b / 2 ≡ raised t (x / 2) (x % 2)

halved : (t x b : ℕ) → b < 2 → IsHalved t x b
halved t x b digit =
    let more : t + 1 ≡ suc t = omega arith in
    let parts = ap (λ e. x % 2 ^ e) (sym more) ∙ mod-pow-add x t 1 in
    record { low = omega (arith, parts, digit); high = omega (arith, parts, digit) }

-- where it is the lowest one
record IsFilled (x b : ℕ) : Type 0 where
  low : raised 0 x b % 2 ≡ b
  high : raised 0 x b / 2 ≡ x / 2

filled : (x b : ℕ) → bit_at x 0 ≡ 0 → b < 2 → IsFilled x b
filled x b clear digit =
    let none : x % 2 ^ 0 ≡ 0 = omega arith in
    let even : x % 2 ≡ 0 = omega (arith, bit_at_lowest x, clear) in
    record { low = omega (arith, none, even, digit); high = omega (arith, none, even, digit) }

-- they are picked from there, with what came in
raised_packed : (n t x m b : ℕ) → t < n → bit_at m t ≡ 0 → ((i : ℕ) → i < t → bit_at m i ≡ 1) → bit_at x t ≡ 0 → b < 2 → packed_of n (raised t x b) (m + 2 ^ t) ≡ 2 * packed_of n x m + b
raised_packed zero t x m b h place below clear digit = absurd (omega arith)
raised_packed (suc n) zero x m b h place below clear digit =
    let f = filled x b clear digit in
    let none : m % 2 ≡ 0 = omega (arith, bit_at_lowest m, place) in
    let one : (m + 2 ^ 0) % 2 ≡ 1 = omega (arith, none) in
    let half : (m + 2 ^ 0) / 2 ≡ m / 2 = omega (arith, none) in
    let up = packed_odd n (raised 0 x b) (m + 2 ^ 0) one ∙ ap₂ (λ u v. u + 2 * v) f.low (ap₂ (λ y k. packed_of n y k) f.high half) in
    omega (arith, up, packed_even n x m none)
raised_packed (suc n) (suc t) x m b h place below clear digit =
    let f = halved t x b digit in
    let two = pow-suc 2 t in
    let odd : m % 2 ≡ 1 = omega (arith, bit_at_lowest m, below 0 (omega arith)) in
    let one : (m + 2 ^ suc t) % 2 ≡ 1 = omega (arith, odd, two) in
    let half : (m + 2 ^ suc t) / 2 ≡ m / 2 + 2 ^ t = omega (arith, two) in
    let smaller = raised_packed n t (x / 2) (m / 2) (x % 2) (omega arith) (sym (bit_at-suc m t) ∙ place) (λ i l. sym (bit_at-suc m i) ∙ below (suc i) (omega arith)) (sym (bit_at-suc x t) ∙ clear) (omega arith) in
    let up = packed_odd n (raised (suc t) x b) (m + 2 ^ suc t) one ∙ ap₂ (λ u v. u + 2 * v) f.low (ap₂ (λ y k. packed_of n y k) f.high half) in
    omega (arith, up, packed_odd n x m odd, smaller)

-- the bits above t stay
same_above : (t i x b : ℕ) → t < i → bit_at x t ≡ 0 → b < 2 → bit_at (raised t x b) i ≡ bit_at x i
same_above t zero x b h clear digit = absurd (omega arith)
same_above zero (suc i) x b h clear digit =
    bit_at-suc (raised 0 x b) i ∙ ap (λ y. bit_at y i) (filled x b clear digit).high ∙ sym (bit_at-suc x i)
same_above (suc t) (suc i) x b h clear digit =
    bit_at-suc (raised (suc t) x b) i ∙ ap (λ y. bit_at y i) (halved t x b digit).high
    ∙ same_above t i (x / 2) (x % 2) (omega arith) (sym (bit_at-suc x t) ∙ clear) (omega arith) ∙ sym (bit_at-suc x i)

-- and no bit leaves the word
raised_fits : (n t x b : ℕ) → t < n → x < 2 ^ n → bit_at x t ≡ 0 → b < 2 → raised t x b < 2 ^ n
raised_fits zero t x b h fits clear digit = absurd (omega arith)
raised_fits (suc n) zero x b h fits clear digit =
    let f = filled x b clear digit in
    omega (arith, f.high, f.low, digit, fits, pow-suc 2 n)
raised_fits (suc n) (suc t) x b h fits clear digit =
    let f = halved t x b digit in
    let two = pow-suc 2 n in
    let smaller = raised_fits n t (x / 2) (x % 2) (omega arith) (omega (arith, fits, two)) (sym (bit_at-suc x t) ∙ clear) (omega arith) in
    omega (arith, f.high, f.low, digit, smaller, two)

-- ---- a turn for each clear position

-- a mask that isn't 0 has fewer of them than places
pub not_all_clear : (mask : ℕ) → (mask ≡ 0 → ⊥) → 64 - count_ones mask < 64
not_all_clear mask some = elim (cases_lt 0 (count_ones mask)) [
  | inl picks ↦ omega (arith, picks)
  | inr none ↦ absurd (some (zero_from_ones mask (omega (arith, none))))
]

-- what the positions that aren't clear pick of `packed` is the word's bits at the upper end, above
-- a zero for each turn
pub record IsClosing (src mask packed clear : ℕ) : Type 0 where
  pub value : packed_of 64 packed (2 ^ 64 - 1 - clear) * 2 ^ count_ones clear ≡ pext src mask * 2 ^ (64 - count_ones mask)
  pub apart : (i : ℕ) → bit_at clear i ≡ 1 → bit_at packed i ≡ 0

pub closing_starts : (src mask : ℕ) → mask < 2 ^ 64 → IsClosing src mask (bit_and src mask) (2 ^ 64 - 1 - mask)
unfolding pext
closing_starts src mask fits =
    let clear = 2 ^ 64 - 1 - mask in
    let back : 2 ^ 64 - 1 - clear ≡ mask = omega (arith, fits) in
    let turns : count_ones clear ≡ 64 - count_ones mask = omega (arith, flipped_ones 64 clear mask (omega (arith, fits))) in
    record {
      value = ap₂ (λ n k. n * 2 ^ k) (ap (λ m. packed_of 64 (bit_and src mask) m) back ∙ only_picked 64 src mask) turns;
      apart = λ i e. elim (cases_lt i 64) [
        | inl within ↦ omega (arith, bit_at_and src mask i, bit_at_not w64 mask i fits within, e, bit_at-lt mask i)
        | inr past ↦ omega (arith, bit_at_and src mask i, bit_at_above mask 64 i fits past)
      ];
    }

-- one turn
pub record ClosesOn (src mask packed clear : ℕ) : Type 0 where
  pub fits : packed + bit_and packed (clear - 1 - bit_and clear (clear - 1)) < 2 ^ 64
  pub closing : IsClosing src mask (packed + bit_and packed (clear - 1 - bit_and clear (clear - 1))) (bit_and clear (clear - 1))

pub closes_on : (src mask packed clear : ℕ) → 0 < clear → clear < 2 ^ 64 → packed < 2 ^ 64 → IsClosing src mask packed clear → ClosesOn src mask packed clear
closes_on src mask packed clear some fits small v =
    let t = count_trailing_zeros 64 clear in
    let rest = bit_and clear (clear - 1) in
    let low = lowest clear some fits in
    let m = 2 ^ 64 - 1 - clear in
    let none = v.apart t low.set in
    let below : clear - 1 - rest ≡ 2 ^ t - 1 = omega (arith, low.rest) in
    let after : packed + bit_and packed (clear - 1 - rest) ≡ raised t packed 0 = omega (arith, ap (bit_and packed) below ∙ and_mask packed t) in
    let next : 2 ^ 64 - 1 - rest ≡ m + 2 ^ t = omega (arith, low.rest, fits) in
    let place : bit_at m t ≡ 0 = omega (arith, bit_at_not w64 clear t fits low.within, low.set) in
    let under : (i : ℕ) → i < t → bit_at m i ≡ 1 = λ i l. omega (arith, bit_at_not w64 clear i fits (omega (arith, l, low.within)), (bit_at-trailing_zeros w64 clear some fits).2 i l) in
    let up = ap₂ (λ y k. packed_of 64 y k) after next ∙ raised_packed 64 t packed m 0 low.within place under none (omega arith) in
    let fewer : 2 ^ count_ones clear ≡ 2 ^ count_ones rest * 2 =
    let more : count_ones clear ≡ suc (count_ones rest) = omega (arith, one_less 64 clear some fits) in
    ap (λ k. 2 ^ k) more ∙ pow-suc 2 (count_ones rest) in
    record {
      fits = omega (arith, after, raised_fits 64 t packed 0 low.within small none (omega arith));
      closing = record {
        value = ap (λ n. n * 2 ^ count_ones rest) up ∙ doubled (packed_of 64 packed m) (2 ^ count_ones rest) ∙ ap (λ n. packed_of 64 packed m * n) (sym fewer) ∙ v.value;
        apart = λ i e.
            let stays : bit_at clear i ≡ 1 = omega (arith, bit_at_and clear (clear - 1) i, e, bit_at-lt clear i, bit_at-lt (clear - 1) i) in
            ap (λ y. bit_at y i) after ∙ same_above t i packed 0 (low.behind i e) none (omega arith) ∙ v.apart i stays;
      };
    }
  where
    doubled : (n k : ℕ) → (2 * n + 0) * k ≡ n * (k * 2)
    doubled n k = omega arith

-- where no clear position is left, the word's bits stand at the upper end
pub all_closed : (src mask packed clear : ℕ) → packed < 2 ^ 64 → clear ≡ 0 → IsClosing src mask packed clear → packed / 2 ^ (64 - count_ones mask) ≡ pext src mask
all_closed src mask packed clear fits none v =
    let n = 64 - count_ones mask in
    let whole : packed_of 64 packed (2 ^ 64 - 1 - clear) ≡ packed = ap (λ c. packed_of 64 packed (2 ^ 64 - 1 - c)) none ∙ packed_all 64 packed fits in
    let one : 2 ^ count_ones clear ≡ 1 = ap (λ k. 2 ^ k) (zero_ones clear none) in
    let same : packed * 1 ≡ packed = omega arith in
    let is : packed ≡ pext src mask * 2 ^ n = sym (ap₂ ◌*◌ whole one ∙ same) ∙ v.value in
    ap (λ x. x / 2 ^ n) is ∙ mul-div_cancel (pext src mask) (pow_pos n)
  where
    zero_ones : (x : ℕ) → x ≡ 0 → count_ones x ≡ 0
    zero_ones x none = omega (arith, none, ones_le_self x)
