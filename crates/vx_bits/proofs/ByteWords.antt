-- Words that are read from bytes.
use Rattle.std.proofs.Common.{◌≡◌, ℕ, suc, ◌+◌, ◌-◌, ◌*◌, ◌/◌, ◌%◌, ◌^◌, ◌<◌, ◌≤◌, Bool, true, false, cond, eqb, List, [], ◌∷◌, ◌++◌, length, get_or, take, drop, bit_or, bit_and, inl, inr, sym, ap, ap₂, subst, ◌∙◌, arith, add-zero}
use Rattle.std.specs.Int.{bit_at, w64, from_le_bytes}
use Rattle.std.specs.Int.RustNames.{count_ones}
use Rattle.std.proofs.lemmas.Bool.{cases_eq, cases_lt}
use Rattle.std.proofs.lemmas.List.{drop_at, drop_more, get_or-drop, get_or-take, get_or_past, length-drop, take_all, take_at, length-take-le, take-append-drop}
use Rattle.std.proofs.lemmas.Nat.{and_mask, div-add-mod', mod_below, mod_low, mod-pow-add, one_shl, or_comm, or_shifted, pow_pos, shr_below, shr_high}
use Rattle.std.proofs.lemmas.Nat.Bits.{bit_at-lt, shr_and_one}
use Rattle.vx_bits.specs.BitBuffer.{bit_of, bits_of, number_of, true_count_of}
use Rattle.vx_bits.specs.Words.{word_at, word_bits}
use Rattle.vx_bits.proofs.BitLists.{bits_cut, bits_drop, bits_of_byte, bits_split, length_bits, number_below, number_push, set_next_at, true_count_split}
use Rattle.vx_bits.proofs.ByteLists.{bits_front, bits_of_eight}
use Rattle.vx_bits.proofs.WordLists.{word_is}
use Rattle.vx_bits.proofs.WordBits.{length-word_bits, number_of-word_bits, take-word_bits, true_count_of-word_bits, word_bits-append, word_bits_low}

part_below : (bytes : List ℕ) (start : ℕ) → length (take 8 (drop start bytes)) ≡ 8 → ((i : ℕ) → get_or bytes i 0 < 256) → (i : ℕ) → get_or (take 8 (drop start bytes)) i 0 < 256
part_below bytes start long fits i =
    let rest = drop start bytes in
    elim (cases_lt i 8) [
      | inl h ↦ omega (arith, get_or-take 8 rest i 0 h, get_or-drop start bytes i 0, fits (start + i))
      | inr h ↦ omega (arith, get_or_past (take 8 rest) i 0 (omega arith))
    ]

-- the word that eight bytes from `start` on spell
pub eight_from : (bytes : List ℕ) (start : ℕ) → start + 8 ≤ length bytes → ((i : ℕ) → get_or bytes i 0 < 256) → word_bits (from_le_bytes w64 (take 8 (drop start bytes))) 64 ≡ bits_of bytes (8 * start) 64
eight_from bytes start h fits =
    let rest = drop start bytes in
    let eight = take 8 rest in
    let long : length eight ≡ 8 = length-take-le 8 rest (omega (arith, length-drop start bytes)) in
    bits_of_eight eight long (part_below bytes start long fits)
    ∙ sym (bits_front eight (drop 8 rest) 64 (omega arith))
    ∙ ap (λ l. bits_of l 0 64) (take-append-drop 8 rest)
    ∙ bits_drop bytes start 0 64
    ∙ ap (λ j. bits_of bytes j 64) (add-zero (8 * start))

module _ {X : Type 0} (xs : List X) (start : ℕ) (d : X) where
  next_item : (m k : ℕ) → start + m < length xs → take (suc k) (drop (start + m) xs) ≡ get_or xs (start + m) d ∷ take k (drop (start + (m + 1)) xs)
  next_item m k h =
      let next : start + m + 1 ≡ start + (m + 1) = omega arith in
      ap (take (suc k)) (drop_more xs (start + m) d h) ∙ ap (λ j. get_or xs (start + m) d ∷ take k (drop j xs)) next

  -- eight items from `start` on, one by one
  pub eight_items : start + 8 ≤ length xs
      → get_or xs start d ∷ get_or xs (start + 1) d ∷ get_or xs (start + 2) d ∷ get_or xs (start + 3) d ∷ get_or xs (start + 4) d ∷ get_or xs (start + 5) d ∷ get_or xs (start + 6) d ∷ get_or xs (start + 7) d ∷ []
      ≡ take 8 (drop start xs)
  eight_items h =
      let from : start + 0 ≡ start = omega arith in
      sym (
      ap (λ j. take 8 (drop j xs)) (sym from)
      ∙ next_item 0 7 (omega arith)
      ∙ ap₂ (λ j l. get_or xs j d ∷ l) from (
      next_item 1 6 (omega arith) ∙ ap (λ l. get_or xs (start + 1) d ∷ l) (
      next_item 2 5 (omega arith) ∙ ap (λ l. get_or xs (start + 2) d ∷ l) (
      next_item 3 4 (omega arith) ∙ ap (λ l. get_or xs (start + 3) d ∷ l) (
      next_item 4 3 (omega arith) ∙ ap (λ l. get_or xs (start + 4) d ∷ l) (
      next_item 5 2 (omega arith) ∙ ap (λ l. get_or xs (start + 5) d ∷ l) (
      next_item 6 1 (omega arith) ∙ ap (λ l. get_or xs (start + 6) d ∷ l) (
      next_item 7 0 (omega arith)))))))))

-- a word's lowest bits, and those above them
pub word_split : (x s k : ℕ) → word_bits x (s + k) ≡ word_bits x s ++ word_bits (x / 2 ^ s) k
word_split x s k =
    ap (λ y. word_bits y (s + k)) (sym (div-add-mod' x (2 ^ s)))
    ∙ word_bits-append (x % 2 ^ s) s (x / 2 ^ s) k (mod_below x (2 ^ s) (pow_pos s))
    ∙ ap (λ l. l ++ word_bits (x / 2 ^ s) k) (word_bits_low x s)

pub same_tail : (a b c d : List Bool) (n : ℕ) → length a ≡ n → length b ≡ n → a ++ c ≡ b ++ d → c ≡ d
same_tail a b c d n p q e = sym (drop_at a c n p) ∙ ap (drop n) e ∙ drop_at b d n q

-- the bits of a byte's front
byte_front : (bytes : List ℕ) (k s : ℕ) → s ≤ 8 → bits_of bytes (8 * k) s ≡ word_bits (get_or bytes k 0) s
byte_front bytes k s h =
    let whole : s + (8 - s) ≡ 8 = omega arith in
    sym (take_at (bits_of bytes (8 * k) s) (bits_of bytes (8 * k + s) (8 - s)) s (length_bits bytes (8 * k) s))
    ∙ ap (take s) (sym (bits_split bytes (8 * k) s (8 - s)) ∙ ap (bits_of bytes (8 * k)) whole ∙ bits_of_byte bytes k)
    ∙ take-word_bits (get_or bytes k 0) s 8 h

-- what the code computes of a word and what stands behind it
pub shifted_is : (low high s : ℕ) → low < 2 ^ 64 → 0 < s → s < 64 → bit_or (low / 2 ^ s) (high * 2 ^ (64 - s) % 2 ^ 64) ≡ high % 2 ^ s * 2 ^ (64 - s) + low / 2 ^ s
shifted_is low high s fits p q =
    let k = 64 - s in
    let whole : k + s ≡ 64 = omega arith in
    let small : low / 2 ^ s < 2 ^ k = shr_below low k s (subst (λ (n : ℕ). low < 2 ^ n) (sym whole) fits) in
    let n = high * 2 ^ k + 0 in
    let turned : s + k ≡ 64 = omega arith in
    let same : high * 2 ^ k ≡ n = omega arith in
    let parts = ap₂ (λ x e. x % 2 ^ e) same (sym turned) ∙ mod-pow-add n s k ∙ ap₂ (λ a b. a % 2 ^ s * 2 ^ k + b) (shr_high high k 0 (pow_pos k)) (mod_low high k 0 (pow_pos k)) in
    let top : high * 2 ^ k % 2 ^ 64 ≡ high % 2 ^ s * 2 ^ k = omega (arith, parts) in
    ap (bit_or (low / 2 ^ s)) top ∙ or_comm (low / 2 ^ s) (high % 2 ^ s * 2 ^ k) ∙ or_shifted (high % 2 ^ s) k (low / 2 ^ s) small

pub shifted_bits : (bytes : List ℕ) (start s low word : ℕ) → 0 < s → s < 8 → low < 2 ^ 64 → word_bits low 64 ≡ bits_of bytes (8 * start) 64 → word ≡ bit_or (low / 2 ^ s) (get_or bytes (start + 8) 0 * 2 ^ (64 - s) % 2 ^ 64) → word_bits word 64 ≡ bits_of bytes (8 * start + s) 64
shifted_bits bytes start s low word p q fits eight e =
    let k = 64 - s in
    let byte = get_or bytes (start + 8) 0 in
    let whole : k + s ≡ 64 = omega arith in
    let turned : s + k ≡ 64 = omega arith in
    let there : 8 * (start + 8) ≡ 8 * start + s + k = omega arith in
    let small : low / 2 ^ s < 2 ^ k = shr_below low k s (subst (λ (n : ℕ). low < 2 ^ n) (sym whole) fits) in
    let is = e ∙ shifted_is low byte s fits p (omega arith) in
    let joined = word_bits-append (low / 2 ^ s) k (byte % 2 ^ s) s small ∙ ap (λ l. word_bits (low / 2 ^ s) k ++ l) (word_bits_low byte s) in
    let front : bits_of bytes (8 * start + s) k ≡ word_bits (low / 2 ^ s) k =
    same_tail (bits_of bytes (8 * start) s) (word_bits low s) (bits_of bytes (8 * start + s) k) (word_bits (low / 2 ^ s) k) s (length_bits bytes (8 * start) s) (length-word_bits low s)
    (sym (bits_split bytes (8 * start) s k) ∙ ap (bits_of bytes (8 * start)) turned ∙ sym eight ∙ ap (word_bits low) (sym turned) ∙ word_split low s k) in
    ap₂ word_bits is (sym whole) ∙ joined
    ∙ ap₂ ◌++◌ (sym front) (sym (byte_front bytes (start + 8) s (omega arith)) ∙ ap (λ j. bits_of bytes j s) there)
    ∙ sym (bits_split bytes (8 * start + s) k s)
    ∙ ap (bits_of bytes (8 * start + s)) whole

-- a word's lowest bits spell the front of its bits
pub masked_number : (bytes : List ℕ) (place word n : ℕ) → n < 64 → word_bits word 64 ≡ bits_of bytes place 64 → bit_and word (1 * 2 ^ n % 2 ^ 64 - 1) ≡ number_of (bits_of bytes place n)
masked_number bytes place word n h e =
    let whole : n + (64 - n) ≡ 64 = omega arith in
    let front : bits_of bytes place n ≡ word_bits word n =
    sym (take_at (bits_of bytes place n) (bits_of bytes (place + n) (64 - n)) n (length_bits bytes place n))
    ∙ ap (take n) (sym (bits_split bytes place n (64 - n)) ∙ ap (bits_of bytes place) whole ∙ sym e)
    ∙ take-word_bits word n 64 (omega arith) in
    ap (λ m. bit_and word (m - 1)) (one_shl n 64 h) ∙ and_mask word n ∙ sym (number_of-word_bits word n) ∙ ap number_of (sym front)

-- the number of one more bit
pub number_more_bit : (bytes : List ℕ) (place k : ℕ) → number_of (bits_of bytes place (k + 1)) ≡ number_of (bits_of bytes place k) + cond (bit_of bytes (place + k)) 1 0 * 2 ^ k
number_more_bit bytes place k =
    ap number_of (bits_split bytes place k 1)
    ∙ number_push (bits_of bytes place k) (bit_of bytes (place + k))
    ∙ ap (λ n. number_of (bits_of bytes place k) + cond (bit_of bytes (place + k)) 1 0 * 2 ^ n) (length_bits bytes place k)

pub number_bits_below : (bytes : List ℕ) (place k : ℕ) → number_of (bits_of bytes place k) < 2 ^ k
number_bits_below bytes place k = subst (λ (n : ℕ). number_of (bits_of bytes place k) < 2 ^ n) (length_bits bytes place k) (number_below (bits_of bytes place k))

-- a bit that is set is added, and one that is clear is not
pub number_with_bit : (bytes : List ℕ) (place k word : ℕ) → k < 64 → word ≡ number_of (bits_of bytes place k) → bit_and (get_or bytes ((place + k) / 8) 0 / 2 ^ ((place + k) % 8)) 1 ≡ 1 → bit_or word (1 * 2 ^ k % 2 ^ 64) ≡ number_of (bits_of bytes place (k + 1))
number_with_bit bytes place k word h e set =
    let j = place + k in
    let bit : bit_of bytes j ≡ true = ap (λ n. eqb n 1) (sym (shr_and_one (get_or bytes (j / 8) 0) (j % 8)) ∙ set) in
    let below = subst (λ (n : ℕ). n < 2 ^ k) (sym e) (number_bits_below bytes place k) in
    let more = number_more_bit bytes place k ∙ ap (λ b. number_of (bits_of bytes place k) + cond b 1 0 * 2 ^ k) bit in
    omega (arith, set_next_at 64 word k below h, more)

pub number_without_bit : (bytes : List ℕ) (place k word : ℕ) → word ≡ number_of (bits_of bytes place k) → (bit_and (get_or bytes ((place + k) / 8) 0 / 2 ^ ((place + k) % 8)) 1 ≡ 1 → ⊥) → word ≡ number_of (bits_of bytes place (k + 1))
number_without_bit bytes place k word e clear =
    let j = place + k in
    let byte = get_or bytes (j / 8) 0 in
    let digit = shr_and_one byte (j % 8) in
    let none : bit_at byte (j % 8) ≡ 0 = elim (cases_eq (bit_at byte (j % 8)) 1) [ inl one ↦ absurd (clear (digit ∙ one)) | inr other ↦ omega (arith, bit_at-lt byte (j % 8)) ] in
    let bit : bit_of bytes j ≡ false = ap (λ n. eqb n 1) none in
    let more = number_more_bit bytes place k ∙ ap (λ b. number_of (bits_of bytes place k) + cond b 1 0 * 2 ^ k) bit in
    omega (arith, more)

-- the count of one more word
pub count_more_word : (bytes : List ℕ) (first k word : ℕ) → word < 2 ^ 64 → word_bits word 64 ≡ bits_of bytes (8 * (first + 8 * k)) 64 → true_count_of (bits_of bytes (8 * first) (64 * (k + 1))) ≡ true_count_of (bits_of bytes (8 * first) (64 * k)) + count_ones word
count_more_word bytes first k word fits e =
    let next : 64 * (k + 1) ≡ 64 * k + 64 = omega arith in
    let there : 8 * first + 64 * k ≡ 8 * (first + 8 * k) = omega arith in
    let own = ap (λ j. true_count_of (bits_of bytes j 64)) there ∙ ap true_count_of (sym e) ∙ true_count_of-word_bits word 64 fits in
    ap (λ n. true_count_of (bits_of bytes (8 * first) n)) next ∙ true_count_split bytes (8 * first) (64 * k) 64 ∙ ap (λ n. true_count_of (bits_of bytes (8 * first) (64 * k)) + n) own

-- ---- the words of a bit buffer

-- fewer than 64 bits are left
pub front_word : (bytes : List ℕ) (offset len i : ℕ) → 64 * i ≤ len → len < 64 * i + 64 → number_of (bits_of bytes (8 * (8 * i) + offset) (len - 64 * i)) ≡ word_at (bits_of bytes offset len) i
unfolding word_at
front_word bytes offset len i p q =
    let bits = bits_of bytes offset len in
    let left = len - 64 * i in
    let there : 8 * (8 * i) + offset ≡ offset + 64 * i = omega arith in
    let long : length (drop (64 * i) bits) ≡ left = omega (arith, length-drop (64 * i) bits, length_bits bytes offset len) in
    ap (λ j. number_of (bits_of bytes j left)) there
    ∙ ap number_of (bits_cut bytes offset len (64 * i) len p (omega arith)
    ∙ take_all left (drop (64 * i) bits) (omega arith)
    ∙ sym (take_all 64 (drop (64 * i) bits) (omega arith)))

-- 64 bits are left
pub inner_word : (bytes : List ℕ) (offset len i word : ℕ) → 64 * i + 64 ≤ len → word < 2 ^ 64 → word_bits word 64 ≡ bits_of bytes (8 * (8 * i) + offset) 64 → word ≡ word_at (bits_of bytes offset len) i
inner_word bytes offset len i word h fits e =
    let there : 8 * (8 * i) + offset ≡ offset + 64 * i = omega arith in
    let whole : 64 * i + 64 - 64 * i ≡ 64 = omega arith in
    let cut = ap₂ (λ j n. bits_of bytes j n) there (sym whole) ∙ bits_cut bytes offset len (64 * i) (64 * i + 64) (omega arith) h ∙ ap (λ n. take n (drop (64 * i) (bits_of bytes offset len))) whole in
    word_is (bits_of bytes offset len) i word 64 fits (sym (e ∙ cut))
