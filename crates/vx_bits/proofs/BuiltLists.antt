-- The bits that a builder holds, as it grows.
use Rattle.std.proofs.Common.{◌≡◌, ◌≢◌, ℕ, suc, ◌+◌, ◌-◌, ◌*◌, ◌/◌, ◌%◌, ◌^◌, ◌<◌, ◌≤◌, Bool, true, false, cond, eqb, List, [], ◌∷◌, ◌++◌, length, get_or, set, take, replicate, bit_or, inl, inr, refl, sym, ap, ap₂, subst, ◌∙◌, arith, zero-add}
use Rattle.std.specs.Int.{bit_at, w8, w64, to_le_bytes}
use Rattle.std.proofs.lemmas.Bool.{cases_eq}
use Rattle.std.proofs.lemmas.List.{same_lists, append_assoc, length-append, length-set, length-replicate, get_or_default, get_or-set_same, get_or-set_other, take_at, set-append_left, set-append_right, replicate-append-replicate}
use Rattle.std.proofs.lemmas.Nat.{mod_below, mul-add-lt, one_shl, or_comm, or_shifted, or_lt, pow-add, pow_pos, shl_whole}
use Rattle.std.proofs.lemmas.Nat.Bits.{bit_at_set_same, bit_at_set_other}
use Rattle.std.proofs.Math.Pow.{pow_mono}
use Rattle.vx_bits.specs.BitBuffer.{bit_of, bits_of}
use Rattle.vx_bits.specs.BitBuilder.{builder_bits}
use Rattle.vx_bits.specs.Words.{word_bits}
use Rattle.vx_bits.proofs.BitLists.{length_bits, bit_in, bits_split}
use Rattle.vx_bits.proofs.ByteLists.{bits_joined, bits_of_ones, bits_of_word, bits_of_zeros}
use Rattle.vx_bits.proofs.WordBits.{get_or-word_bits, length-word_bits, ones-word_bits, take-word_bits, word_bits-append, word_bits-none, word_bits_low, zero-word_bits}

-- ---- numbers

-- a word behind the lowest k bits of another
pub joined_is : (x k y : ℕ) → x < 2 ^ k → k < 64 → y < 2 ^ 64 → bit_or x (y * 2 ^ (k % 64) % 2 ^ 128) ≡ y * 2 ^ k + x
joined_is x k y below short fits =
    let same : k % 64 ≡ k = omega arith in
    ap (λ e. bit_or x (y * 2 ^ e % 2 ^ 128)) same ∙ ap (bit_or x) (shl_whole y 64 k 128 fits (omega arith)) ∙ or_comm x (y * 2 ^ k) ∙ or_shifted y k x below

-- the word that is joined has no more bits
pub joined_below : (next held low n all : ℕ) → next < 2 ^ held → low < 2 ^ n → all ≡ low * 2 ^ held + next → all < 2 ^ (held + n)
joined_below next held low n all p q e = omega (arith, mul-add-lt low (2 ^ held) next (2 ^ n) q p, pow-add 2 held n)

-- ---- bits of one kind

pub word_alike : (bit : Bool) (n : ℕ) → n ≤ 64 → word_bits (cond bit (2 ^ 64 - 1) 0) n ≡ replicate n bit
word_alike true n h = ones-word_bits n 64 h
word_alike false n h = zero-word_bits n

pub bytes_alike : (bit : Bool) (k : ℕ) → bits_of (replicate k (cond bit 255 0)) 0 (8 * k) ≡ replicate (8 * k) bit
bytes_alike true k = bits_of_ones k
bytes_alike false k = bits_of_zeros k

-- ---- what is built

pub built_none : (bytes : List ℕ) → bytes ≡ [] → builder_bits bytes 0 0 ≡ []
built_none bytes e = ap (λ l. builder_bits l 0 0) e ∙ word_bits-none 0

pub length-built : (bytes : List ℕ) (next held : ℕ) → length (builder_bits bytes next held) ≡ 8 * length bytes + held
length-built bytes next held = length-append (bits_of bytes 0 (8 * length bytes)) (word_bits next held) ∙ ap₂ (λ a b. a + b) (length_bits bytes 0 (8 * length bytes)) (length-word_bits next held)

-- the bits of a word and of those behind it
word_joined : (next held word n all : ℕ) → next < 2 ^ held → all ≡ word % 2 ^ n * 2 ^ held + next → word_bits all (held + n) ≡ word_bits next held ++ word_bits word n
word_joined next held word n all h e = ap (λ x. word_bits x (held + n)) e ∙ word_bits-append next held (word % 2 ^ n) n h ∙ ap (λ l. word_bits next held ++ l) (word_bits_low word n)

-- the bits of a word stay in the next word
pub built_more : (bytes : List ℕ) (next held word n all : ℕ) → next < 2 ^ held → all ≡ word % 2 ^ n * 2 ^ held + next → builder_bits bytes all (held + n) ≡ builder_bits bytes next held ++ word_bits word n
built_more bytes next held word n all h e =
    let front = bits_of bytes 0 (8 * length bytes) in
    ap (λ l. front ++ l) (word_joined next held word n all h e) ∙ sym (append_assoc front (word_bits next held) (word_bits word n))

-- a full word becomes eight bytes
bits_push : (bytes new : List ℕ) (x : ℕ) → x < 2 ^ 64 → new ≡ bytes ++ to_le_bytes w64 x → bits_of new 0 (8 * length new) ≡ bits_of bytes 0 (8 * length bytes) ++ word_bits x 64
bits_push bytes new x h e = ap (λ l. bits_of l 0 (8 * length l)) e ∙ bits_joined bytes (to_le_bytes w64 x) ∙ ap (λ l. bits_of bytes 0 (8 * length bytes) ++ l) (bits_of_word x h)

pub built_word : (bytes new : List ℕ) (next held word n all low high r : ℕ) → next < 2 ^ held → all ≡ word % 2 ^ n * 2 ^ held + next → low ≡ all % 2 ^ 64 → high ≡ all / 2 ^ 64 → 64 + r ≡ held + n → new ≡ bytes ++ to_le_bytes w64 low → builder_bits new high r ≡ builder_bits bytes next held ++ word_bits word n
built_word bytes new next held word n all low high r h e is_low is_high sum pushed =
    let front = bits_of bytes 0 (8 * length bytes) in
    let below : low < 2 ^ 64 = omega arith in
    let cut : high * 2 ^ 64 + low ≡ all = omega arith in
    ap (λ l. l ++ word_bits high r) (bits_push bytes new low below pushed)
    ∙ append_assoc front (word_bits low 64) (word_bits high r)
    ∙ ap (λ l. front ++ l) (sym (word_bits-append low 64 high r below) ∙ ap₂ word_bits cut sum ∙ word_joined next held word n all h e)
    ∙ sym (append_assoc front (word_bits next held) (word_bits word n))

take_past : {X : Type 0} (xs ys : List X) (n : ℕ) → take (length xs + n) (xs ++ ys) ≡ xs ++ take n ys
take_past [] ys n = ap (λ k. take k ys) (zero-add n)
take_past (x ∷ xs) ys n = let e : suc (length xs) + n ≡ suc (length xs + n) = omega arith in ap (λ k. take k (x ∷ (xs ++ ys))) e ∙ ap (λ l. x ∷ l) (take_past xs ys n)

-- the bits at the end are all there is
pub built_end : (bytes new : List ℕ) (next held : ℕ) → held ≤ 64 → next < 2 ^ 64 → new ≡ bytes ++ to_le_bytes w64 next → bits_of new 0 (8 * length bytes + held) ≡ builder_bits bytes next held
built_end bytes new next held short fits pushed =
    let n = 8 * length bytes in
    let front = bits_of bytes 0 n in
    let long = length_bits bytes 0 n in
    let sum : length new ≡ length bytes + 8 = ap length pushed ∙ length-append bytes (to_le_bytes w64 next) in
    let whole : 8 * length new ≡ (n + held) + (64 - held) = omega arith in
    let all = bits_push bytes new next fits pushed in
    let split = sym (ap (bits_of new 0) whole ∙ bits_split new 0 (n + held) (64 - held)) in
    sym (take_at (bits_of new 0 (n + held)) (bits_of new (0 + (n + held)) (64 - held)) (n + held) (length_bits new 0 (n + held)))
    ∙ ap (take (n + held)) (split ∙ all)
    ∙ ap (λ m. take (m + held) (front ++ word_bits next 64)) (sym long) ∙ take_past front (word_bits next 64) held
    ∙ ap (λ l. front ++ l) (take-word_bits next held 64 short)

-- ---- many bits of one kind

-- the first word, so many words and the rest are all of one kind
pub built_alike : (bytes new : List ℕ) (next held n words rest first low low_rest : ℕ) (bit : Bool) → held < 64 → next < 2 ^ held
    → 64 - held ≤ n → words ≡ (n - (64 - held)) / 64 → rest ≡ (n - (64 - held)) % 64
    → low ≡ cond bit (2 ^ 64 - 1) 0 % 2 ^ (64 - held) → first ≡ (low * 2 ^ held + next) % 2 ^ 64
    → low_rest ≡ cond bit (2 ^ 64 - 1) 0 % 2 ^ rest
    → new ≡ (bytes ++ to_le_bytes w64 first) ++ replicate (8 * words) (cond bit 255 0)
    → builder_bits new low_rest rest ≡ builder_bits bytes next held ++ replicate n bit
built_alike bytes new next held n words rest first low low_rest bit open_word clean many e_words e_rest e_low e_first e_low_rest pushed =
    let room = 64 - held in
    let word = cond bit (2 ^ 64 - 1) 0 in
    let front = bits_of bytes 0 (8 * length bytes) in
    let mid = bytes ++ to_le_bytes w64 first in
    let tail : List ℕ = replicate (8 * words) (cond bit 255 0) in
    let long : length tail ≡ 8 * words = length-replicate (8 * words) (cond bit 255 0) in
    let full : held + room ≡ 64 = omega arith in
    let below : low * 2 ^ held + next < 2 ^ 64 = subst (λ (k : ℕ). low * 2 ^ held + next < 2 ^ k) full (joined_below next held low room (low * 2 ^ held + next) clean (subst (λ (x : ℕ). x < 2 ^ room) (sym e_low) (mod_below word (2 ^ room) (pow_pos room))) refl) in
    let first_is : first ≡ word % 2 ^ room * 2 ^ held + next = omega (arith, e_first, below, ap (λ x. x * 2 ^ held + next) e_low) in
    let first_bits : word_bits first 64 ≡ word_bits next held ++ replicate room bit = ap (word_bits first) (sym full) ∙ word_joined next held word room first clean first_is ∙ ap (λ l. word_bits next held ++ l) (word_alike bit room (omega arith)) in
    let rest_bits : word_bits low_rest rest ≡ replicate rest bit = ap (λ x. word_bits x rest) e_low_rest ∙ word_bits_low word rest ∙ word_alike bit rest (omega arith) in
    let tail_bits : bits_of tail 0 (8 * length tail) ≡ replicate (8 * (8 * words)) bit = ap (λ m. bits_of tail 0 (8 * m)) long ∙ bytes_alike bit (8 * words) in
    let mid_bits = bits_push bytes mid first (omega arith) refl in
    let new_bits = ap (λ l. bits_of l 0 (8 * length l)) pushed ∙ bits_joined mid tail ∙ ap₂ ◌++◌ (mid_bits ∙ ap (λ l. front ++ l) first_bits) tail_bits in
    let own = word_bits next held in
    let a = replicate room bit in
    let b = replicate (8 * (8 * words)) bit in
    let d = replicate rest bit in
    let sum : room + 8 * (8 * words) + rest ≡ n = omega arith in
    ap₂ ◌++◌ new_bits rest_bits
    ∙ regroup front own a b d
    ∙ ap (λ l. (front ++ own) ++ l) (ap (λ l. l ++ d) (replicate-append-replicate room (8 * (8 * words)) bit) ∙ replicate-append-replicate (room + 8 * (8 * words)) rest bit ∙ ap (λ k. replicate k bit) sum)
  where
    regroup : (f o a b d : List Bool) → ((f ++ (o ++ a)) ++ b) ++ d ≡ (f ++ o) ++ ((a ++ b) ++ d)
    regroup f o a b d = simp append_assoc

-- ---- one bit that is turned on

same_set : (xs ys : List Bool) (i : ℕ) → length ys ≡ length xs → i < length xs → get_or ys i false ≡ true → ((k : ℕ) → k ≢ i → k < length xs → get_or ys k false ≡ get_or xs k false) → ys ≡ set xs i true
same_set xs ys i long h on others = same_lists _ _ (long ∙ sym (length-set xs i true)) (λ k d p.
    let below : k < length xs = omega arith in
    elim (cases_eq k i) [
      | inl e ↦
          let here : get_or ys k false ≡ true = ap (λ j. get_or ys j false) e ∙ on in
          get_or_default ys k d false (omega arith) ∙ here ∙ sym (ap (λ j. get_or (set xs i true) j d) e ∙ get_or-set_same xs i true d h)
      | inr e ↦ get_or_default ys k d false (omega arith) ∙ others k e below ∙ get_or_default xs k false d below ∙ sym (get_or-set_other xs i k true d e)
    ])

-- in a word
pub word_set : (x n k : ℕ) → k < n → n ≤ 64 → word_bits (bit_or x (1 * 2 ^ k % 2 ^ 64)) n ≡ set (word_bits x n) k true
word_set x n k h fits =
    let y = bit_or x (1 * 2 ^ k % 2 ^ 64) in
    let within : k < 64 = omega arith in
    same_set (word_bits x n) (word_bits y n) k (length-word_bits y n ∙ sym (length-word_bits x n)) (omega (arith, length-word_bits x n))
    (get_or-word_bits y n k false h ∙ ap (λ b. eqb b 1) (bit_at_set_same w64 x k within))
    (λ j other below.
    let low : j < n = omega (arith, length-word_bits x n) in
    get_or-word_bits y n j false low ∙ ap (λ b. eqb b 1) (bit_at_set_other w64 x k within j other) ∙ sym (get_or-word_bits x n j false low))

-- in bytes
pub bytes_set : (bytes : List ℕ) (n i : ℕ) → i < n → n ≤ 8 * length bytes → bits_of (set bytes (i / 8) (bit_or (get_or bytes (i / 8) 0) (1 * 2 ^ (i % 8) % 256))) 0 n ≡ set (bits_of bytes 0 n) i true
bytes_set bytes n i h fits =
    let q = i / 8 in
    let r = i % 8 in
    let old = get_or bytes q 0 in
    let byte = bit_or old (1 * 2 ^ r % 256) in
    let new = set bytes q byte in
    let within : r < 8 = omega arith in
    let inside : q < length bytes = omega arith in
    same_set (bits_of bytes 0 n) (bits_of new 0 n) i (length_bits new 0 n ∙ sym (length_bits bytes 0 n)) (omega (arith, length_bits bytes 0 n))
    (bit_in new 0 n i false h
    ∙ ap (bit_of new) (zero-add i)
    ∙ ap (λ b. eqb (bit_at b r) 1) (get_or-set_same bytes q byte 0 inside)
    ∙ ap (λ b. eqb b 1) (bit_at_set_same w8 old r within))
    (λ j other below.
    let low : j < n = omega (arith, length_bits bytes 0 n) in
    let same : bit_of new j ≡ bit_of bytes j = elim (cases_eq (j / 8) q) [
      | inl e ↦
          let apart : j % 8 ≢ r = λ f. other (omega arith) in
          ap (λ k. eqb (bit_at (get_or new k 0) (j % 8)) 1) e
          ∙ ap (λ b. eqb (bit_at b (j % 8)) 1) (get_or-set_same bytes q byte 0 inside)
          ∙ ap (λ b. eqb b 1) (bit_at_set_other w8 old r within (j % 8) apart)
          ∙ sym (ap (λ k. eqb (bit_at (get_or bytes k 0) (j % 8)) 1) e)
      | inr e ↦ ap (λ b. eqb (bit_at b (j % 8)) 1) (get_or-set_other bytes q (j / 8) byte 0 e)
    ] in
    bit_in new 0 n j false low ∙ ap (bit_of new) (zero-add j) ∙ same ∙ sym (bit_in bytes 0 n j false low ∙ ap (bit_of bytes) (zero-add j)))

-- in what is built
pub built_set_byte : (bytes new : List ℕ) (next held i : ℕ) → i < 8 * length bytes → new ≡ set bytes (i / 8) (bit_or (get_or bytes (i / 8) 0) (1 * 2 ^ (i % 8) % 256)) → builder_bits new next held ≡ set (builder_bits bytes next held) i true
built_set_byte bytes new next held i h e =
    let byte = bit_or (get_or bytes (i / 8) 0) (1 * 2 ^ (i % 8) % 256) in
    let n = 8 * length bytes in
    let long : length new ≡ length bytes = ap length e ∙ length-set bytes (i / 8) byte in
    ap₂ (λ l m. bits_of l 0 (8 * m) ++ word_bits next held) e long
    ∙ ap (λ l. l ++ word_bits next held) (bytes_set bytes n i h (omega arith))
    ∙ sym (set-append_left (bits_of bytes 0 n) (word_bits next held) i true (omega (arith, length_bits bytes 0 n)))

pub built_set_next : (bytes : List ℕ) (next held i k : ℕ) → 8 * length bytes + k ≡ i → k < held → held ≤ 64 → builder_bits bytes (bit_or next (1 * 2 ^ k % 2 ^ 64)) held ≡ set (builder_bits bytes next held) i true
built_set_next bytes next held i k e h fits =
    let n = 8 * length bytes in
    let place : i - n ≡ k = omega arith in
    ap (λ l. bits_of bytes 0 n ++ l) (word_set next held k h fits ∙ ap (λ j. set (word_bits next held) j true) (sym place))
    ∙ sym (set-append_right (bits_of bytes 0 n) (word_bits next held) n i true (length_bits bytes 0 n) (omega arith))

-- a bit that is turned on leaves a word its width
pub set_below : (x k n : ℕ) → x < 2 ^ n → k < n → n ≤ 64 → bit_or x (1 * 2 ^ k % 2 ^ 64) < 2 ^ n
set_below x k n h p q =
    let more : k + 1 ≤ n = omega arith in
    let power : 2 ^ k < 2 ^ n = omega (arith, pow_mono more, pow-add 2 k 1, pow_pos k) in
    subst (λ (y : ℕ). bit_or x y < 2 ^ n) (sym (one_shl k 64 (omega arith))) (or_lt n x (2 ^ k) h power)
