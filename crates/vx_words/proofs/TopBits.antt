-- Bits that a word takes in from above.
use Rattle.std.proofs.Common.{◌≡◌, ℕ, suc, ◌+◌, ◌-◌, ◌*◌, ◌/◌, ◌%◌, ◌^◌, ◌<◌, Bool, true, false, eqb, List, [], ◌∷◌, ◌++◌, length, bit_or, sym, subst, ap, ap₂, ◌∙◌, arith}
use Rattle.std.proofs.lemmas.Bool.{eqb-false, eqb-true}
use Rattle.std.proofs.lemmas.Nat.{or_comm, or_shifted, pow-add, shl_below}
use Rattle.std.proofs.Math.Nat.{add-mul, mul_assoc, pow-suc}
use Rattle.vx_bits.specs.BitBuffer.{number_of}
use Rattle.vx_bits.proofs.BitLists.{number_below}
use Rattle.vx_words.proofs.BitWords.{number_joined}

-- the lowest bit of a number comes in from above, behind k others
in_from_above : (packed k top here : ℕ) → k < 64 → packed < 2 ^ k → top ≡ packed * 2 ^ (64 - k) → bit_or (top / 2) (here * 2 ^ 63 % 2 ^ 64) ≡ (here % 2 * 2 ^ k + packed) * 2 ^ (64 - (k + 1))
in_from_above packed k top here short below e =
    let bit = here % 2 in
    let m = 63 - k in
    let low = packed * 2 ^ m in
    let next : 64 - k ≡ suc m = omega arith in
    let two : packed * 2 ^ (64 - k) ≡ low * 2 = ap (λ n. packed * 2 ^ n) next ∙ ap (λ p. packed * p) (pow-suc 2 m) ∙ sym (mul_assoc packed (2 ^ m) 2) in
    let half : top / 2 ≡ low = omega (arith, e, two) in
    let whole : k + m ≡ 63 = omega arith in
    let bound : low < 2 ^ 63 = subst (λ (n : ℕ). low < 2 ^ n) whole (shl_below packed k m below) in
    let up : here * 2 ^ 63 % 2 ^ 64 ≡ bit * 2 ^ 63 = omega arith in
    let high : bit * 2 ^ k * 2 ^ m ≡ bit * 2 ^ 63 = mul_assoc bit (2 ^ k) (2 ^ m) ∙ ap (λ p. bit * p) (sym (pow-add 2 k m) ∙ ap (λ n. 2 ^ n) whole) in
    let spread : (bit * 2 ^ k + packed) * 2 ^ m ≡ bit * 2 ^ k * 2 ^ m + low = add-mul (bit * 2 ^ k) packed (2 ^ m) in
    let last : 64 - (k + 1) ≡ m = omega arith in
    ap₂ bit_or half up ∙ or_comm low (bit * 2 ^ 63) ∙ or_shifted bit 63 low bound
    ∙ ap (λ x. x + low) (sym high) ∙ sym spread ∙ ap (λ n. (bit * 2 ^ k + packed) * 2 ^ n) (sym last)

-- a lowest bit is a number
lowest_is : (here : ℕ) (bit : Bool) → eqb (here % 2) 1 ≡ bit → here % 2 ≡ number_of (bit ∷ [])
lowest_is here true e = eqb-true (here % 2) 1 e
lowest_is here false e =
    let other = eqb-false (here % 2) 1 e in
    omega (arith, other)

-- a bit comes in behind the others
pub in_behind : (bits : List Bool) (bit : Bool) (top j here : ℕ) → j < 64 → length bits ≡ j → top ≡ number_of bits * 2 ^ (64 - j) → eqb (here % 2) 1 ≡ bit → bit_or (top / 2) (here * 2 ^ 63 % 2 ^ 64) ≡ number_of (bits ++ bit ∷ []) * 2 ^ (64 - (j + 1))
in_behind bits bit top j here few long e is =
    let below : number_of bits < 2 ^ j = subst (λ (n : ℕ). number_of bits < 2 ^ n) long (number_below bits) in
    in_from_above (number_of bits) j top here few below e
    ∙ ap (λ x. x * 2 ^ (64 - (j + 1))) (ap₂ (λ b n. b * 2 ^ n + number_of bits) (lowest_is here bit is) (sym long) ∙ sym (number_joined bits (bit ∷ [])))

-- four bits come in behind the others
pub four_behind : (bits four : List Bool) (top j here : ℕ) → j < 16 → length bits ≡ 4 * j → length four ≡ 4 → top ≡ number_of bits * 2 ^ (64 - 4 * j) → here ≡ number_of four → bit_or (top / 2 ^ 4) (here * 2 ^ 60 % 2 ^ 64) ≡ number_of (bits ++ four) * 2 ^ (64 - 4 * (j + 1))
four_behind bits four top j here few long short e is =
    let n = number_of bits in
    let m = 60 - 4 * j in
    let low = n * 2 ^ m in
    let whole : 4 * j + m ≡ 60 = omega arith in
    let wide : n * 2 ^ (64 - 4 * j) ≡ low * 2 ^ 4 =
    let up : 64 - 4 * j ≡ m + 4 = omega arith in
    ap (λ k. n * 2 ^ k) up ∙ ap (λ p. n * p) (pow-add 2 m 4) ∙ sym (mul_assoc n (2 ^ m) (2 ^ 4)) in
    let quarter : top / 2 ^ 4 ≡ low = omega (arith, e, wide) in
    let below : n < 2 ^ (4 * j) = subst (λ (k : ℕ). n < 2 ^ k) long (number_below bits) in
    let bound : low < 2 ^ 60 = subst (λ (k : ℕ). low < 2 ^ k) whole (shl_below n (4 * j) m below) in
    let small : here < 2 ^ 4 = subst (λ (x : ℕ). x < 2 ^ 4) (sym is) (subst (λ (k : ℕ). number_of four < 2 ^ k) short (number_below four)) in
    let up : here * 2 ^ 60 % 2 ^ 64 ≡ here * 2 ^ 60 = omega arith in
    let high : here * 2 ^ (4 * j) * 2 ^ m ≡ here * 2 ^ 60 = mul_assoc here (2 ^ (4 * j)) (2 ^ m) ∙ ap (λ p. here * p) (sym (pow-add 2 (4 * j) m) ∙ ap (λ k. 2 ^ k) whole) in
    let spread : (here * 2 ^ (4 * j) + n) * 2 ^ m ≡ here * 2 ^ (4 * j) * 2 ^ m + low = add-mul (here * 2 ^ (4 * j)) n (2 ^ m) in
    let joined : number_of (bits ++ four) ≡ here * 2 ^ (4 * j) + n = number_joined bits four ∙ ap₂ (λ x k. x * 2 ^ k + n) (sym is) long in
    let last : 64 - 4 * (j + 1) ≡ m = omega arith in
    ap₂ bit_or quarter up ∙ or_comm low (here * 2 ^ 60) ∙ or_shifted here 60 low bound
    ∙ ap (λ x. x + low) (sym high) ∙ sym spread ∙ ap₂ (λ x k. x * 2 ^ k) (sym joined) (sym last)
