-- Bits and records in cuts of bytes.
use Rattle.std.proofs.Common.{◌≡◌, ℕ, ◌+◌, ◌-◌, ◌*◌, ◌/◌, ◌%◌, ◌<◌, ◌≤◌, List, take, drop, eqb, ap, ◌∙◌, sym, arith, get_or-take}
use Rattle.std.specs.Int.{bit_at}
use Rattle.std.proofs.lemmas.List.{same_lists}
use Rattle.vx_bits.specs.BitBuffer.{bits_of}
use Rattle.vx_bits.proofs.BitLists.{bit_in, bits_drop, length_bits}

-- bytes behind the bits play no part
bits_take : (bytes : List ℕ) (m r n : ℕ) → r + n ≤ 8 * m → bits_of (take m bytes) r n ≡ bits_of bytes r n
bits_take bytes m r n h = same_lists _ _ (length_bits (take m bytes) r n ∙ sym (length_bits bytes r n)) (λ k d l.
    let below : k < n = omega (arith, length_bits (take m bytes) r n) in
    bit_in (take m bytes) r n k d below
    ∙ ap (λ x. eqb (bit_at x ((r + k) % 8)) 1) (get_or-take m bytes ((r + k) / 8) 0 (omega arith))
    ∙ sym (bit_in bytes r n k d below))

-- the bytes up to `last` that bits lie in
pub bits_copied : (bytes : List ℕ) (o n last : ℕ) → o + n ≤ 8 * last → bits_of (take (last - o / 8) (drop (o / 8) bytes)) (o % 8) n ≡ bits_of bytes o n
bits_copied bytes o n last h =
    let at : 8 * (o / 8) + o % 8 ≡ o = omega arith in
    bits_take (drop (o / 8) bytes) (last - o / 8) (o % 8) n (omega arith)
    ∙ bits_drop bytes (o / 8) (o % 8) n
    ∙ ap (λ j. bits_of bytes j n) at
