-- Lists of bits that bytes hold.
use Rattle.std.proofs.Common.{◌≡◌, ℕ, zero, suc, ◌+◌, ◌*◌, ◌-◌, ◌/◌, ◌%◌, ◌^◌, ◌<◌, ◌≤◌, Bool, true, false, cond, None, List, [], ◌∷◌, ◌++◌, length, get_or, take, drop, map, eqb, bit_or, refl, sym, ap, ap₂, subst, ◌∙◌, arith}
use Rattle.std.specs.List.{range_with_len}
use Rattle.std.specs.Int.{bit_at}
use Rattle.std.proofs.lemmas.List.{same_lists, get_or-drop, get_or-take, length-take-le, take_rest, take_more, map-append}
use Rattle.std.proofs.lemmas.List.FromFn.{length-map-range_with_len, get_or-map-range_with_len}
use Rattle.std.proofs.lemmas.Nat.{one_shl, or_comm, or_shifted}
use Rattle.std.proofs.lemmas.List.Sums.{sum_by-append, sum_by-cons}
use Rattle.std.proofs.lemmas.Nat.Bits.{bit_at_lowest, bit_at-suc, bit_at-zero, bit_at-lt}
use Rattle.std.specs.Int.RustNames.{count_ones}
use Rattle.std.proofs.Math.Nat.{pow-suc, mul_comm, one-mul}
use Rattle.vx_bits.specs.BitBuffer.{PlacedBits, bit_of, bits_of, bit_fault, number_of, true_count_of}
use Rattle.vx_bits.specs.Words.{word_bits}
use Rattle.vx_bits.proofs.Cuts.{length_of_cut}
use Rattle.vx_bits.proofs.WordBits.{length-word_bits, get_or-word_bits, true_count_of-word_bits}
use Rattle.vx_lemmas.proofs.Lists.{range_split}
use Rattle.vx_lemmas.proofs.Numbers.{digit_test}

-- what the bytes hold where there is no fault
pub record Reaches (byte_count offset len : ℕ) : Type 0 where
  pub below : offset < 8
  pub counted : offset + len < 2 ^ 64
  pub within : offset + len ≤ 8 * byte_count

pub reaches-no_fault : (n o len : ℕ) → bit_fault n o len ≡ None → Reaches n o len
reaches-no_fault n o len h = record { below = grind arith; counted = grind arith; within = grind arith }

pub no_fault-reaches : (n o len : ℕ) → Reaches n o len → bit_fault n o len ≡ None
no_fault-reaches n o len h = let a = h.below in let b = h.counted in let c = h.within in grind arith

pub length_bits : (bytes : List ℕ) (o n : ℕ) → length (bits_of bytes o n) ≡ n
length_bits bytes o n = length-map-range_with_len (bit_of bytes) o n

pub bit_in : (bytes : List ℕ) (o n i : ℕ) (d : Bool) → i < n → get_or (bits_of bytes o n) i d ≡ bit_of bytes (o + i)
bit_in bytes o n i d h = get_or-map-range_with_len (bit_of bytes) o n i (o + i) d h refl

-- what the fields of a bit buffer say of its value
pub record AreFields (bytes : List ℕ) (offset len : ℕ) (placed : PlacedBits) : Type 0 where
  pub bits : bits_of bytes offset len ≡ placed.bits
  pub at : offset ≡ placed.offset
  pub long : length placed.bits ≡ len
  pub below : offset < 8
  pub counted : offset + len < 2 ^ 64
  pub within : offset + len ≤ 8 * length bytes

pub are_fields : (bytes : List ℕ) (o n : ℕ) (placed : PlacedBits) → record { bits = bits_of bytes o n; offset = o } ≡ placed → bit_fault (length bytes) o n ≡ None → AreFields bytes o n placed
are_fields bytes o n placed view_is no_fault =
    let reached = reaches-no_fault (length bytes) o n no_fault in
    let same : bits_of bytes o n ≡ placed.bits = ap (λ (p : PlacedBits). p.bits) view_is in
    record {
      bits = same;
      at = ap (λ (p : PlacedBits). p.offset) view_is;
      long = sym (ap length same) ∙ length_bits bytes o n;
      below = reached.below;
      counted = reached.counted;
      within = reached.within;
    }

-- a cut of the bits begins at another bit
pub bits_cut : (bytes : List ℕ) (o n s e : ℕ) → s ≤ e → e ≤ n → bits_of bytes (o + s) (e - s) ≡ take (e - s) (drop s (bits_of bytes o n))
bits_cut bytes o n s e p q =
    let long = length_bits bytes o n in
    let fits : s + (e - s) ≤ length (bits_of bytes o n) = omega arith in
    same_lists _ _ (length_bits bytes (o + s) (e - s) ∙ sym (length_of_cut _ s (e - s) fits)) (λ k d h.
    let below : k < e - s = omega (arith, length_bits bytes (o + s) (e - s)) in
    bit_in bytes (o + s) (e - s) k d below ∙ ap (bit_of bytes) (omega arith)
    ∙ sym (get_or-take (e - s) _ k d below ∙ get_or-drop s _ k d ∙ bit_in bytes o n (s + k) d (omega arith)))

-- whole bytes before the bits play no part
pub bits_drop : (bytes : List ℕ) (q r n : ℕ) → bits_of (drop q bytes) r n ≡ bits_of bytes (8 * q + r) n
bits_drop bytes q r n = same_lists _ _ (length_bits (drop q bytes) r n ∙ sym (length_bits bytes (8 * q + r) n)) (λ k d h.
    let below : k < n = omega (arith, length_bits (drop q bytes) r n) in
    let byte : q + (r + k) / 8 ≡ (8 * q + r + k) / 8 = omega arith in
    let place : (r + k) % 8 ≡ (8 * q + r + k) % 8 = omega arith in
    bit_in (drop q bytes) r n k d below
    ∙ ap (λ x. eqb (bit_at x ((r + k) % 8)) 1) (get_or-drop q bytes ((r + k) / 8) 0 ∙ ap (λ j. get_or bytes j 0) byte)
    ∙ ap (λ j. eqb (bit_at (get_or bytes ((8 * q + r + k) / 8) 0) j) 1) place
    ∙ sym (bit_in bytes (8 * q + r) n k d below))

-- the bits of what is left of the bytes from the first whole byte on
pub bits_slice : (bytes : List ℕ) (o n s e : ℕ) → s ≤ e → e ≤ n → bits_of (take (length bytes - (o + s) / 8) (drop ((o + s) / 8) bytes)) ((o + s) % 8) (e - s) ≡ take (e - s) (drop s (bits_of bytes o n))
bits_slice bytes o n s e p q =
    ap (λ l. bits_of l ((o + s) % 8) (e - s)) (take_rest bytes ((o + s) / 8))
    ∙ bits_drop bytes ((o + s) / 8) ((o + s) % 8) (e - s)
    ∙ ap (λ j. bits_of bytes j (e - s)) (omega arith)
    ∙ bits_cut bytes o n s e p q

-- the number of one more bit
pub number_push : (bits : List Bool) (b : Bool) → number_of (bits ++ b ∷ []) ≡ number_of bits + cond b 1 0 * 2 ^ length bits
number_push [] b = omega arith
number_push (a ∷ bits) b =
    let e = number_push bits b in
    let p : 2 ^ suc (length bits) ≡ 2 * 2 ^ length bits = pow-suc 2 (length bits) ∙ mul_comm _ 2 in
    elim b as (λ v. number_of (bits ++ v ∷ []) ≡ number_of bits + cond v 1 0 * 2 ^ length bits → cond a 1 0 + 2 * number_of (bits ++ v ∷ []) ≡ cond a 1 0 + 2 * number_of bits + cond v 1 0 * 2 ^ suc (length bits)) [
      | true ↦ λ h. omega arith
      | false ↦ λ h. omega arith
    ] e

pub number_more : (bits : List Bool) (k : ℕ) → k < length bits → number_of (take (k + 1) bits) ≡ number_of (take k bits) + cond (get_or bits k false) 1 0 * 2 ^ k
number_more bits k h = ap number_of (take_more bits k false h) ∙ number_push (take k bits) (get_or bits k false) ∙ ap (λ n. number_of (take k bits) + cond (get_or bits k false) 1 0 * 2 ^ n) (length-take-le k bits (omega arith))

pub number_below : (bits : List Bool) → number_of bits < 2 ^ length bits
number_below [] = omega arith
number_below (true ∷ bits) = let h = number_below bits in let p : 2 ^ suc (length bits) ≡ 2 * 2 ^ length bits = pow-suc 2 (length bits) ∙ mul_comm _ 2 in omega arith
number_below (false ∷ bits) = let h = number_below bits in let p : 2 ^ suc (length bits) ≡ 2 * 2 ^ length bits = pow-suc 2 (length bits) ∙ mul_comm _ 2 in omega arith

pub number_take_below : (bits : List Bool) (k : ℕ) → k ≤ length bits → number_of (take k bits) < 2 ^ k
number_take_below bits k h = subst (λ (n : ℕ). number_of (take k bits) < 2 ^ n) (length-take-le k bits h) (number_below (take k bits))

-- to set the bit above a number of k bits adds it
pub set_next_at : (v w k : ℕ) → w < 2 ^ k → k < v → bit_or w (1 * 2 ^ k % 2 ^ v) ≡ w + 2 ^ k
set_next_at v w k below fits =
    ap (bit_or w) (one_shl k v fits) ∙ or_comm w (2 ^ k) ∙ ap (λ n. bit_or n w) (sym (one-mul (2 ^ k))) ∙ or_shifted 1 k w below ∙ omega arith

-- bit k of the number of bits is item k, and zero past the items
pub bit_of_number : (bits : List Bool) (k : ℕ) → eqb (bit_at (number_of bits) k) 1 ≡ get_or bits k false
bit_of_number [] k = ap (λ n. eqb n 1) (bit_at-zero k)
bit_of_number (true ∷ bits) zero = let low : (1 + 2 * number_of bits) % 2 ≡ 1 = omega arith in ap (λ n. eqb n 1) (bit_at_lowest (1 + 2 * number_of bits) ∙ low)
bit_of_number (false ∷ bits) zero = let low : (0 + 2 * number_of bits) % 2 ≡ 0 = omega arith in ap (λ n. eqb n 1) (bit_at_lowest (0 + 2 * number_of bits) ∙ low)
bit_of_number (true ∷ bits) (suc k) = let half : (1 + 2 * number_of bits) / 2 ≡ number_of bits = omega arith in ap (λ n. eqb n 1) (bit_at-suc (1 + 2 * number_of bits) k ∙ ap (λ n. bit_at n k) half) ∙ bit_of_number bits k
bit_of_number (false ∷ bits) (suc k) = let half : (0 + 2 * number_of bits) / 2 ≡ number_of bits = omega arith in ap (λ n. eqb n 1) (bit_at-suc (0 + 2 * number_of bits) k ∙ ap (λ n. bit_at n k) half) ∙ bit_of_number bits k

-- some bits, and those behind them
pub bits_split : (bytes : List ℕ) (o m k : ℕ) → bits_of bytes o (m + k) ≡ bits_of bytes o m ++ bits_of bytes (o + m) k
bits_split bytes o m k = ap (map (bit_of bytes)) (range_split o m k) ∙ map-append (bit_of bytes) (range_with_len o m) (range_with_len (o + m) k)

-- the count of some bits and of those behind them
pub true_count_split : (bytes : List ℕ) (o m k : ℕ) → true_count_of (bits_of bytes o (m + k)) ≡ true_count_of (bits_of bytes o m) + true_count_of (bits_of bytes (o + m) k)
true_count_split bytes o m k =
    ap true_count_of (bits_split bytes o m k)
    ∙ sum_by-append (λ bit. cond bit 1 0) (bits_of bytes o m) (bits_of bytes (o + m) k)

-- the count of the bits up to `end`, by those up to `mid` and those behind it
pub true_count_joined : (bytes : List ℕ) (start mid end : ℕ) → start ≤ mid → mid ≤ end → true_count_of (bits_of bytes start (end - start)) ≡ true_count_of (bits_of bytes start (mid - start)) + true_count_of (bits_of bytes mid (end - mid))
true_count_joined bytes start mid end p q =
    let whole : end - start ≡ (mid - start) + (end - mid) = omega arith in
    let there : start + (mid - start) ≡ mid = omega arith in
    ap (λ n. true_count_of (bits_of bytes start n)) whole
    ∙ true_count_split bytes start (mid - start) (end - mid)
    ∙ ap (λ j. true_count_of (bits_of bytes start (mid - start)) + true_count_of (bits_of bytes j (end - mid))) there

-- the count of one bit
pub true_count_of_one : (bytes : List ℕ) (j : ℕ) → true_count_of (bits_of bytes j 1) ≡ bit_at (get_or bytes (j / 8) 0) (j % 8)
true_count_of_one bytes j =
    let d = bit_at (get_or bytes (j / 8) 0) (j % 8) in
    sum_by-cons (λ bit. cond bit 1 0) (eqb d 1) [] ∙ omega (arith, digit_test d (bit_at-lt (get_or bytes (j / 8) 0) (j % 8)))

-- the bits of a whole byte
pub bits_of_byte : (bytes : List ℕ) (k : ℕ) → bits_of bytes (8 * k) 8 ≡ word_bits (get_or bytes k 0) 8
bits_of_byte bytes k = same_lists _ _ (length_bits bytes (8 * k) 8 ∙ sym (length-word_bits (get_or bytes k 0) 8)) (λ i d p.
    let below : i < 8 = subst (λ (n : ℕ). i < n) (length_bits bytes (8 * k) 8) p in
    let byte : (8 * k + i) / 8 ≡ k = omega (arith, below) in
    let place : (8 * k + i) % 8 ≡ i = omega (arith, below) in
    bit_in bytes (8 * k) 8 i d below
    ∙ ap₂ (λ q r. eqb (bit_at (get_or bytes q 0) r) 1) byte place
    ∙ sym (get_or-word_bits (get_or bytes k 0) 8 i d below))

-- the count of a whole byte
pub true_count_of_byte : (bytes : List ℕ) (k : ℕ) → get_or bytes k 0 < 256 → true_count_of (bits_of bytes (8 * k) 8) ≡ count_ones (get_or bytes k 0)
true_count_of_byte bytes k h = ap true_count_of (bits_of_byte bytes k) ∙ true_count_of-word_bits (get_or bytes k 0) 8 h
