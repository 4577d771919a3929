-- Digits and lowest bits of a number, and tests on numbers of the kind `ℤ`.
use Rattle.std.proofs.Common.{◌≡◌, ℕ, zero, suc, ◌*◌, ◌-◌, ◌%◌, ◌^◌, ◌<◌, ◌≤◌, true, cond, eqb, bit_and, pos, refl, ap, ◌∙◌, arith}
use Rattle.std.specs.Prelude.{int_le}
use Rattle.std.specs.Int.RustNames.{count_ones}
use Rattle.std.proofs.lemmas.Nat.{one_shl, and_mask}
use Rattle.std.proofs.lemmas.Int.{ints}
use lib.Count.{ones-le}

-- a digit is counted as 1 where it is 1, and as 0 where it isn't
pub digit_test : (d : ℕ) → d < 2 → ◌≡◌ {A = ℕ} (cond (eqb d 1) 1 0) d
digit_test zero h = refl
digit_test (suc zero) h = refl
digit_test (suc (suc d)) h = absurd (omega arith)

-- the lowest n bits of a word, by a mask
pub low_bits : (w n : ℕ) → n < 64 → bit_and w (1 * 2 ^ n % 2 ^ 64 - 1) ≡ w % 2 ^ n
low_bits w n h = ap (λ m. bit_and w (m - 1)) (one_shl n 64 h) ∙ and_mask w n

-- 0 has no set bit
pub count_ones-zero : count_ones 0 ≡ 0
count_ones-zero = omega (arith, ones-le 0 0 (omega arith))

-- what a passed test of two naturals as integers says
pub int_le-true : (a b : ℕ) → int_le (pos a) (pos b) ≡ true → a ≤ b
int_le-true a b h = grind (arith, ints)

-- and when the test passes
pub le-int_le : (a b : ℕ) → a ≤ b → int_le (pos a) (pos b) ≡ true
le-int_le a b h = grind (arith, ints)
