-- Bits as bytes and back.
use Rattle.std.proofs.Common.{◌≡◌, ℕ, ◌+◌, ◌-◌, ◌*◌, ◌/◌, ◌%◌, ◌<◌, Bool, false, eqb, List, length, get_or, take, drop, sym, ap, ap₂, ◌∙◌, arith}
use Rattle.std.specs.Int.{bit_at}
use Rattle.std.proofs.lemmas.List.{get_or-drop, get_or-take, get_or_default, same_lists}
use Rattle.std.proofs.lemmas.List.FromFn.{get_or-map-range_with_len, length-map-range_with_len}
use Rattle.std.proofs.Math.Nat.{mod-eq_of_lt}
use Rattle.vx_bits.specs.BitBuffer.{bit_of, bits_of, number_of}
use Rattle.vx_bits.proofs.BitLists.{bit_in, bit_of_number, bits_cut, bits_of_byte, length_bits}
use Rattle.vx_bits.proofs.WordBits.{number_of-word_bits}
use Rattle.vx_packed.specs.Chunk.{bytes_of}

abbrev eight_at : List Bool → ℕ → ℕ
eight_at bits i = number_of (take 8 (drop (8 * i) bits))

pub length-bytes_of : (bits : List Bool) → length (bytes_of bits) ≡ length bits / 8
unfolding bytes_of
length-bytes_of bits = length-map-range_with_len (eight_at bits) 0 (length bits / 8)

pub byte_of : (bits : List Bool) (i : ℕ) (d : ℕ) → i < length bits / 8 → get_or (bytes_of bits) i d ≡ eight_at bits i
unfolding bytes_of
byte_of bits i d h = get_or-map-range_with_len (eight_at bits) 0 (length bits / 8) i i d h (omega arith)

-- the bits of the bytes that bits spell are the bits
pub bits_of-bytes_of : (bits : List Bool) (n : ℕ) → length bits ≡ 8 * n → bits_of (bytes_of bits) 0 (8 * n) ≡ bits
bits_of-bytes_of bits n long = same_lists _ _ (length_bits (bytes_of bits) 0 (8 * n) ∙ sym long) (λ k d h.
    let below : k < 8 * n = omega (arith, length_bits (bytes_of bits) 0 (8 * n)) in
    let q = k / 8 in
    let r = k % 8 in
    let there : 8 * q + r ≡ k = omega arith in
    bit_in (bytes_of bits) 0 (8 * n) k d below
    ∙ ap (bit_of (bytes_of bits)) (omega arith)
    ∙ ap (λ x. eqb (bit_at x r) 1) (byte_of bits q 0 (omega arith))
    ∙ bit_of_number (take 8 (drop (8 * q) bits)) r
    ∙ get_or-take 8 (drop (8 * q) bits) r false (omega arith)
    ∙ get_or-drop (8 * q) bits r false
    ∙ ap (λ j. get_or bits j false) there
    ∙ get_or_default bits k false d (omega arith))

-- the bytes that the bits of bytes spell are the bytes
pub bytes_of-bits_of : (bytes : List ℕ) → ((i : ℕ) → get_or bytes i 0 < 256) → bytes_of (bits_of bytes 0 (8 * length bytes)) ≡ bytes
bytes_of-bits_of bytes fits =
    let n = length bytes in
    let bits = bits_of bytes 0 (8 * n) in
    let long = length_bits bytes 0 (8 * n) in
    let count : length (bytes_of bits) ≡ n = omega (arith, length-bytes_of bits, long) in
    same_lists _ _ count (λ k d h.
    let below : k < n = omega (arith, count, h) in
    let whole : 8 * k + 8 - 8 * k ≡ 8 = omega arith in
    let there : 0 + 8 * k ≡ 8 * k = omega arith in
    let cut = ap₂ (bits_of bytes) (sym there) (sym whole) ∙ bits_cut bytes 0 (8 * n) (8 * k) (8 * k + 8) (omega arith) (omega arith) ∙ ap (λ m. take m (drop (8 * k) bits)) whole in
    byte_of bits k d (omega (arith, long))
    ∙ ap number_of (sym cut ∙ bits_of_byte bytes k)
    ∙ number_of-word_bits (get_or bytes k 0) 8
    ∙ mod-eq_of_lt (fits k)
    ∙ get_or_default bytes k 0 d below)
