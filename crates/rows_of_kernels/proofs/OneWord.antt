-- The bits of a single word.
use Rattle.std.proofs.Common.{◌≡◌, ℕ, ◌^◌, ◌<◌, ◌≤◌, ◌++◌, [], false, eqb, get_or, ap, ◌∙◌, arith, append-nil}
use Rattle.std.proofs.lemmas.Nat.Bits.{bit_at_above}
use Rattle.std.proofs.Math.Pow.{pow_mono}
use lib.Count.{ones-le}
use Rattle.vx_bits.specs.BitBuffer.{true_count_of}
use Rattle.vx_bits.specs.Words.{word_bits}
use Rattle.vx_bits.proofs.WordBits.{get_or-word_bits, true_count_of-word_bits}

-- a word below 2 ^ n has no bit from bit n on
pub clear_from : (word n : ℕ) → word < 2 ^ n → (k : ℕ) → n ≤ k → k < 64 → get_or (word_bits word 64 ++ []) k false ≡ false
clear_from word n fits k h q = ap (λ l. get_or l k false) (append-nil (word_bits word 64)) ∙ get_or-word_bits word 64 k false q ∙ ap (λ r. eqb r 1) (bit_at_above word n k fits h)

-- so it has at most n set bits
pub set_at_most : (word n : ℕ) → word < 2 ^ n → n ≤ 64 → true_count_of (word_bits word 64 ++ []) ≤ n
set_at_most word n fits h =
    let wide : 2 ^ n ≤ 2 ^ 64 = pow_mono h in
    omega (arith, ap true_count_of (append-nil (word_bits word 64)), true_count_of-word_bits word 64 (omega arith), ones-le n word fits)
