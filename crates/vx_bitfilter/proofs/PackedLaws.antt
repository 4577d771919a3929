-- Bit k of what a word packs of another.
use Rattle.std.proofs.Common.{◌≡◌, ℕ, zero, suc, ◌+◌, ◌^◌, ◌<◌, ◌≤◌, Bool, false, eqb, List, [], ◌∷◌, length, get_or, None, Some, append-nil, refl, sym, ap, ap₂, ◌∙◌, arith}
use Rattle.std.specs.Int.RustNames.{count_ones}
use Rattle.std.specs.List.{items_where_true, slice_get}
use Rattle.std.proofs.lemmas.List.{length-map}
use Rattle.std.proofs.lemmas.Option.{get_or_from_slice_get, slice_get_within, slice_get-get_or}
use Rattle.std.proofs.lemmas.Nat.Bits.{bit_at-lt}
use Rattle.vx_bits.specs.BitBuffer.{number_of}
use Rattle.vx_bits.specs.Words.{word_bits}
use Rattle.vx_bits.proofs.BitLists.{bit_of_number}
use Rattle.vx_bits.proofs.WordBits.{get_or-word_bits, length-word_bits, true_count_of-word_bits, word_bits-number_of}
use Rattle.vx_mask.specs.Positions.{set_of}
use Rattle.vx_mask.proofs.PositionLists.{length-positions}
use Rattle.vx_mask.proofs.RankedItems.{items_at_the_set, slice_get-some, get_or-map-get}
use Rattle.vx_bitfilter.specs.Pext.{pext, HasPackedBits, IsZeroAbove}
use Rattle.vx_bitfilter.proofs.PackedBits.{picked_bits}

module _ {X : Type 0} where
  length-picked : (bits : List Bool) (xs : List X) → length bits ≡ length xs → length (items_where_true bits xs) ≡ length (set_of bits)
  length-picked bits xs h = sym (length-map (items_where_true bits xs) (λ x. Some x)) ∙ ap length (items_at_the_set bits xs h) ∙ length-map (set_of bits) (slice_get xs)

same_bit : (a b : ℕ) → a < 2 → b < 2 → eqb a 1 ≡ eqb b 1 → a ≡ b
same_bit zero zero p q e = refl
same_bit zero (suc zero) p q e = cc
same_bit zero (suc (suc b)) p q e = absurd (omega arith)
same_bit (suc zero) zero p q e = cc
same_bit (suc zero) (suc zero) p q e = refl
same_bit (suc zero) (suc (suc b)) p q e = absurd (omega arith)
same_bit (suc (suc a)) b p q e = absurd (omega arith)

-- a word picks as many bits as are set in it
pub count_picked : (src mask : ℕ) → mask < 2 ^ 64 → length (picked_bits src mask) ≡ count_ones mask
count_picked src mask h =
    let wm = word_bits mask 64 in
    length-picked wm (word_bits src 64) (length-word_bits mask 64 ∙ sym (length-word_bits src 64))
    ∙ length-positions 0 wm ∙ true_count_of-word_bits mask 64 h

pub packed_bits : (src mask : ℕ) → HasPackedBits src mask
unfolding pext
packed_bits src mask h k below =
    let wm = word_bits mask 64 in
    let ws = word_bits src 64 in
    let bits = picked_bits src mask in
    let count = count_picked src mask h in
    let places : length (set_of wm) ≡ count_ones mask = length-positions 0 wm ∙ true_count_of-word_bits mask 64 h in
    let here : slice_get bits k ≡ slice_get ws (get_or (set_of wm) k 0) =
    sym (slice_get-some bits k)
    ∙ ap (λ l. get_or l k None) (items_at_the_set wm ws (length-word_bits mask 64 ∙ sym (length-word_bits src 64)))
    ∙ get_or-map-get ws (set_of wm) k (omega arith) in
    let there : slice_get ws (get_or (set_of wm) k 0) ≡ Some (get_or bits k false) = sym here ∙ slice_get-get_or bits k false (omega arith) in
    let inside = slice_get_within ws (get_or (set_of wm) k 0) (get_or bits k false) there in
    let bit = get_or_from_slice_get ws (get_or (set_of wm) k 0) (get_or bits k false) false there in
    same_bit _ _ (bit_at-lt (number_of bits) k) (bit_at-lt src (get_or (set_of wm) k 0))
    (bit_of_number bits k ∙ sym bit ∙ get_or-word_bits src 64 (get_or (set_of wm) k 0) false (omega (arith, length-word_bits src 64)))

clear_bit : (a : ℕ) → a < 2 → eqb a 1 ≡ false → a ≡ 0
clear_bit zero h e = refl
clear_bit (suc zero) h e = cc
clear_bit (suc (suc a)) h e = absurd (omega arith)

get_or_past : (bits : List Bool) (k : ℕ) → length bits ≤ k → get_or bits k false ≡ false
get_or_past [] k h = refl
get_or_past (b ∷ bits) zero h = absurd (omega arith)
get_or_past (b ∷ bits) (suc k) h = get_or_past bits k (omega arith)

pub zero_above : (src mask : ℕ) → IsZeroAbove src mask
unfolding pext
zero_above src mask h k above =
    let bits = picked_bits src mask in
    clear_bit _ (bit_at-lt (number_of bits) k) (bit_of_number bits k ∙ get_or_past bits k (omega (arith, count_picked src mask h)))

-- the bits of what is packed are those that the mask picks
pub pext-word_bits : (src mask packed : ℕ) → mask < 2 ^ 64 → packed ≡ pext src mask → word_bits packed (count_ones mask) ≡ picked_bits src mask
unfolding pext
pext-word_bits src mask packed h e =
    let bits = picked_bits src mask in
    let long : count_ones mask ≡ length bits + 0 = omega (arith, count_picked src mask h) in
    ap₂ word_bits e long ∙ word_bits-number_of bits 0 ∙ append-nil bits
