-- The lowest run of a word.
use Rattle.std.proofs.Common.{◌≡◌, ℕ, zero, suc, ◌+◌, ◌-◌, ◌*◌, ◌/◌, ◌%◌, ◌^◌, ◌<◌, ◌≤◌, min, true, false, ◌++◌, length, replicate, bit_and, sym, ap, ap₂, subst, ◌∙◌, inl, inr, arith}
use Rattle.std.specs.List.{range_with_len}
use Rattle.std.specs.Int.{bit_at, bit_not, trailing_zeros, trailing_ones, w64}
use Rattle.std.proofs.Math.Nat.{pow-suc, add-mul, mul-lt-mul_of_pos_right, div-le_self}
use Rattle.std.proofs.lemmas.Bool.{cases_lt}
use Rattle.std.proofs.lemmas.List.{length-append, length-replicate}
use Rattle.std.proofs.lemmas.List.FromFn.{length-range_with_len}
use Rattle.std.proofs.lemmas.Nat.{mod-pow-add, pow_pos, one_shl, and_mod, and_block, and_le_l, shr_below, div-add-mod'}
use Rattle.std.proofs.lemmas.Nat.Bits.{bit_at_lowest, bit_at_above, bit_at_ones, bit_at_ones_above, bit_at-trailing_zeros, bit_at-trailing_ones}
use lib.Bits.{and_step, and_self, and_zero_r}
use lib.Count.{trailing_of_zero}
use Rattle.vx_bits.specs.Words.{word_bits}
use Rattle.vx_bits.proofs.WordBits.{full-word_bits, true_count_of-word_bits, word_bits-append, zero-word_bits}
use Rattle.vx_mask.specs.Positions.{positions}
use Rattle.vx_mask.proofs.PositionLists.{length-positions, positions-append, positions_false, positions_true}
use Rattle.vx_filter.specs.Compact.{IsLowestRun}

-- a number whose lowest bits are clear, or set
low_clear : (x t : ℕ) → ((i : ℕ) → i < t → bit_at x i ≡ 0) → x % 2 ^ t ≡ 0
low_clear x zero h = omega arith
low_clear x (suc t) h =
    let more : suc t ≡ 1 + t = omega arith in
    ap (λ e. x % 2 ^ e) more ∙ mod-pow-add x 1 t ∙ ap₂ (λ a b. a * 2 ^ t + b) (h t (omega arith)) (low_clear x t (λ i p. h i (omega arith))) ∙ omega arith

low_set : (x t : ℕ) → ((i : ℕ) → i < t → bit_at x i ≡ 1) → x % 2 ^ t ≡ 2 ^ t - 1
low_set x zero h = omega arith
low_set x (suc t) h =
    let more : suc t ≡ 1 + t = omega arith in
    ap (λ e. x % 2 ^ e) more ∙ mod-pow-add x 1 t ∙ ap₂ (λ a b. a * 2 ^ t + b) (h t (omega arith)) (low_set x t (λ i p. h i (omega arith))) ∙ omega (arith, pow-suc 2 t, pow_pos t)

-- the ones from bit 0 on, in a full word too
record IsFront (y c : ℕ) : Type 0 where
  ones : (i : ℕ) → i < c → bit_at y i ≡ 1
  ends : bit_at y c ≡ 0

front_of : (y : ℕ) → y < 2 ^ 64 → IsFront y (trailing_ones w64 y)
front_of y fits = elim (cases_lt (y + 1) (2 ^ 64)) [
  | inl below ↦ let r = bit_at-trailing_ones w64 y below in record { ones = r.2; ends = r.1 }
  | inr full ↦
      let is : y ≡ 2 ^ 64 - 1 = omega arith in
      let none : bit_not w64 y ≡ 0 = omega arith in
      let all : trailing_ones w64 y ≡ 64 = ap (trailing_zeros w64) none ∙ trailing_of_zero 64 in
      record {
        ones = λ i p. ap (λ n. bit_at n i) is ∙ bit_at_ones 64 i (omega arith);
        ends = ap₂ bit_at is all ∙ bit_at_ones_above 64 64 (omega arith);
      }
]

-- a word by its lowest run: clear bits, set bits, and an even number above them
record IsRun (x t c z : ℕ) : Type 0 where
  low : t < 64
  some : 0 < c
  inside : t + c ≤ 64
  is : x ≡ (z * 2 ^ c + (2 ^ c - 1)) * 2 ^ t
  even : z % 2 ≡ 0

y_fits : (x t : ℕ) → x < 2 ^ 64 → x / 2 ^ t < 2 ^ 64
y_fits x t fits = omega (arith, div-le_self x (2 ^ t))

run_of : (x : ℕ) → 0 < x → x < 2 ^ 64 → let t = trailing_zeros w64 x in let c = trailing_ones w64 (x / 2 ^ t) in IsRun x t c (x / 2 ^ t / 2 ^ c)
run_of x pos fits =
    let t = trailing_zeros w64 x in
    let y = x / 2 ^ t in
    let c = trailing_ones w64 y in
    let tz = bit_at-trailing_zeros w64 x pos fits in
    let t_in : t < 64 = tz.0 in
    let odd : y % 2 ≡ 1 = tz.1 in
    let whole : (64 - t) + t ≡ 64 = omega arith in
    let small : y < 2 ^ (64 - t) = shr_below x (64 - t) t (subst (λ (n : ℕ). x < 2 ^ n) (sym whole) fits) in
    let front = front_of y (y_fits x t fits) in
    record {
      low = t_in;
      some = elim (cases_lt 0 c) [
        | inl more ↦ more
        | inr none ↦ let zero_is : c ≡ 0 = omega arith in absurd (omega (arith, front.ends, ap (bit_at y) zero_is, bit_at_lowest y))
      ];
      inside = elim (cases_lt (64 - t) c) [
        | inl past ↦ absurd (omega (arith, front.ones (64 - t) past, bit_at_above y (64 - t) (64 - t) small (omega arith)))
        | inr within ↦ omega arith
      ];
      is = sym (div-add-mod' x (2 ^ t)) ∙ omega (arith, low_clear x t tz.2) ∙ ap (λ n. n * 2 ^ t) (sym (div-add-mod' y (2 ^ c)) ∙ ap (λ n. y / 2 ^ c * 2 ^ c + n) (low_set y c front.ones));
      even = front.ends;
    }

-- an even number and the next one have its bits in common
and_next : (z : ℕ) → z % 2 ≡ 0 → bit_and z (z + 1) ≡ z
and_next z h =
    let half : (z + 1) / 2 ≡ z / 2 = omega arith in
    let low : min (z % 2) ((z + 1) % 2) ≡ 0 = omega arith in
    and_step z (z + 1) ∙ ap₂ (λ a b. a * 2 + b) (ap (bit_and (z / 2)) half ∙ and_self (z / 2)) low ∙ omega arith

-- where the sum wraps, the word has none of the bits that are lost
and_wrapped : (x s : ℕ) → x < 2 ^ 64 → bit_and x (s % 2 ^ 64) ≡ bit_and x s
and_wrapped x s fits =
    let own : x % 2 ^ 64 ≡ x = omega arith in
    let below : bit_and x s < 2 ^ 64 = omega (arith, and_le_l x s) in
    let both : bit_and x s % 2 ^ 64 ≡ bit_and x s = omega arith in
    ap (λ n. bit_and n (s % 2 ^ 64)) (sym own) ∙ sym (and_mod x s 64) ∙ both

-- to add the run's lowest bit clears the run
rest_is : (x t c z : ℕ) → x < 2 ^ 64 → IsRun x t c z → bit_and x ((x + 1 * 2 ^ t % 2 ^ 64) % 2 ^ 64) ≡ (z * 2 ^ c + 0) * 2 ^ t
rest_is x t c z fits run =
    let y = z * 2 ^ c + (2 ^ c - 1) in
    let carried : y + 1 ≡ (z + 1) * 2 ^ c + 0 = omega (arith, add-mul z 1 (2 ^ c), pow_pos c) in
    let own : x ≡ y * 2 ^ t + 0 = omega (arith, run.is) in
    let sum : x + 1 * 2 ^ t % 2 ^ 64 ≡ (y + 1) * 2 ^ t + 0 = omega (arith, run.is, one_shl t 64 run.low, add-mul y 1 (2 ^ t)) in
    let high : bit_and y (y + 1) ≡ z * 2 ^ c + 0 = ap (bit_and y) carried ∙ and_block c z (z + 1) (2 ^ c - 1) 0 (omega (arith, pow_pos c)) (pow_pos c) ∙ ap₂ (λ a b. a * 2 ^ c + b) (and_next z run.even) (and_zero_r (2 ^ c - 1)) in
    and_wrapped x (x + 1 * 2 ^ t % 2 ^ 64) fits
    ∙ ap₂ bit_and own sum
    ∙ and_block t y (y + 1) 0 0 (pow_pos t) (pow_pos t)
    ∙ ap₂ (λ a b. a * 2 ^ t + b) high (and_zero_r 0)
    ∙ omega arith

-- ---- bits

-- clear bits, then the bits of r, then those of z
pieces : (t c r z : ℕ) → t + c ≤ 64 → r < 2 ^ c → word_bits ((z * 2 ^ c + r) * 2 ^ t) 64 ≡ replicate t false ++ (word_bits r c ++ word_bits z (64 - (t + c)))
pieces t c r z h p =
    let m = 64 - (t + c) in
    let wide : 64 ≡ t + (c + m) = omega arith in
    let y = z * 2 ^ c + r in
    let number : y * 2 ^ t ≡ y * 2 ^ t + 0 = omega arith in
    ap₂ word_bits number wide ∙ word_bits-append 0 t y (c + m) (pow_pos t) ∙ ap₂ ◌++◌ (zero-word_bits t) (word_bits-append r c z m p)

two_le : (c : ℕ) → 0 < c → 1 < 2 ^ c
two_le zero h = absurd (omega arith)
two_le (suc c) h = omega (arith, pow-suc 2 c, pow_pos c)

-- the places of clear bits and of what is behind them
clear_places : (base t : ℕ) (more : _) → positions base (replicate t false ++ more) ≡ positions (base + t) more
clear_places base t more =
    positions-append base (replicate t false) more ∙ ap₂ (λ l n. l ++ positions (base + n) more) (positions_false base t) (length-replicate t false)

set_places : (base c : ℕ) (more : _) → positions base (replicate c true ++ more) ≡ range_with_len base c ++ positions (base + c) more
set_places base c more =
    positions-append base (replicate c true) more ∙ ap₂ (λ l n. l ++ positions (base + n) more) (positions_true base c) (length-replicate c true)

pub lowest_run_is : (x : ℕ) → 0 < x → x < 2 ^ 64 → let t = trailing_zeros w64 x in IsLowestRun x t (trailing_ones w64 (x / 2 ^ t)) (bit_and x ((x + 1 * 2 ^ t % 2 ^ 64) % 2 ^ 64))
lowest_run_is x pos fits =
    let t = trailing_zeros w64 x in
    let y = x / 2 ^ t in
    let c = trailing_ones w64 y in
    let z = y / 2 ^ c in
    let run = run_of x pos fits in
    let rest = bit_and x ((x + 1 * 2 ^ t % 2 ^ 64) % 2 ^ 64) in
    let gone : rest ≡ (z * 2 ^ c + 0) * 2 ^ t = rest_is x t c z fits run in
    let more = word_bits z (64 - (t + c)) in
    let bits : word_bits x 64 ≡ replicate t false ++ (replicate c true ++ more) = ap (λ n. word_bits n 64) run.is ∙ pieces t c (2 ^ c - 1) z run.inside (omega (arith, pow_pos c)) ∙ ap (λ l. replicate t false ++ (l ++ more)) (full-word_bits c) in
    let left : word_bits rest 64 ≡ replicate t false ++ (replicate c false ++ more) = ap (λ n. word_bits n 64) gone ∙ pieces t c 0 z run.inside (pow_pos c) ∙ ap (λ l. replicate t false ++ (l ++ more)) (zero-word_bits c) in
    let behind = λ (base : ℕ). ap (positions base) left ∙ clear_places base t (replicate c false ++ more) ∙ clear_places (base + t) c more in
    let places : (base : ℕ) → positions base (word_bits x 64) ≡ range_with_len (base + t) c ++ positions base (word_bits rest 64) = λ base.
    ap (positions base) bits ∙ clear_places base t (replicate c true ++ more) ∙ set_places (base + t) c more ∙ ap (λ l. range_with_len (base + t) c ++ l) (sym (behind base)) in
    let less : z * 2 ^ c + 0 < z * 2 ^ c + (2 ^ c - 1) = omega (arith, two_le c run.some) in
    let smaller : rest < x = omega (arith, gone, run.is, mul-lt-mul_of_pos_right less (pow_pos t)) in
    record {
      some = run.some;
      inside = run.inside;
      places = places;
      ones = omega (arith, ap length (places 0), length-append (range_with_len (0 + t) c) (positions 0 (word_bits rest 64)), length-range_with_len (0 + t) c, length-positions 0 (word_bits x 64), length-positions 0 (word_bits rest 64), true_count_of-word_bits x 64 fits, true_count_of-word_bits rest 64 (omega (arith, smaller)));
      smaller = smaller;
    }
