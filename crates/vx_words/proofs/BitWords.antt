-- Bits that words hold, read from any of them on and written from the first one.
use Rattle.std.proofs.Common.{◌≡◌, ℕ, zero, suc, ◌+◌, ◌-◌, ◌*◌, ◌/◌, ◌%◌, ◌^◌, ◌<◌, ◌≤◌, min, Bool, true, false, eqb, List, [], ◌∷◌, ◌++◌, length, get_or, take, drop, set, map, bit_or, inl, inr, refl, sym, ap, ap₂, subst, ◌∙◌, add-zero, zero-add, arith}
use Rattle.std.specs.Int.{bit_at}
use Rattle.std.specs.List.{range_with_len}
use Rattle.std.proofs.lemmas.Bool.{cases_lt}
use Rattle.std.proofs.lemmas.List.FromFn.{length-map-range_with_len, map-range_with_len_more, take-map-range_with_len}
use Rattle.std.proofs.lemmas.List.{append-nil, append_assoc, drop-append-le, drop-drop, drop-set-lt, drop-take, drop_at, drop_more, get_or-drop, get_or-take, get_or_default, length-append, length-drop, length-take, length-take-le, take-append-drop, take-append-le, take-take, take_all, take_more_set}
use Rattle.std.proofs.lemmas.Nat.{mod_below, mod_low, mod-pow-add, or_shifted, pow-add, pow_pos, shr_below, shr_high, shr-shr}
use Rattle.std.proofs.Math.Nat.{mod-eq_of_lt, mul-add-div_right, mul_assoc, mul_comm, pow-suc}
use Rattle.std.proofs.Math.Pow.{pow_mono}
use Rattle.vx_bits.specs.BitBuffer.{number_of}
use Rattle.vx_bits.specs.Words.{word_at, word_bits, word_count}
use Rattle.vx_bits.proofs.BitLists.{number_below}
use Rattle.vx_bits.proofs.WordBits.{length-word_bits, number_of-word_bits, take-word_bits, word_bits-append, word_bits_low}
use Rattle.vx_bits.proofs.WordLists.{picked_full_word, word_is}
use Rattle.vx_bits.proofs.WordsJoined.{words_to, words_to_more}
use Rattle.vx_bitfilter.specs.Pext.{pext}
use Rattle.vx_bitfilter.proofs.PackedBits.{picked_bits}
use Rattle.vx_filter.specs.Compact.{bits_of_words}
use Rattle.vx_words.specs.Bits.{IsPacked, bits_at, words_of}
use Rattle.vx_words.proofs.FilterFaults.{front_and_rest}
use Rattle.vx_words.proofs.MaskRows.{bits_from}
use Rattle.vx_words.proofs.MaskWords.{drop-word_bits}
use Rattle.vx_words.proofs.TakenItems.{there_bit}
use Rattle.vx_filter.proofs.Copies.{length-bits_of_words}

-- ---- bits that are read

pub length-bits_at : (words : List ℕ) (offset len : ℕ) → offset + len ≤ 64 * length words → length (bits_at words offset len) ≡ len
length-bits_at words offset len h =
    length-take-le len (drop offset (bits_of_words words)) (omega (arith, length-drop offset (bits_of_words words), length-bits_of_words words))

-- bit `index` of them
pub bit_there : (words : List ℕ) (offset len index place : ℕ) → offset + len ≤ 64 * length words → index < len → place ≡ offset + index → eqb (bit_at (get_or words (place / 64) 0) (place % 64)) 1 ≡ get_or (bits_at words offset len) index false
bit_there words offset len index place held within e =
    let bits = bits_of_words words in
    sym (get_or-take len (drop offset bits) index false within
    ∙ get_or-drop offset bits index false
    ∙ ap (λ n. get_or bits n false) (sym e)
    ∙ get_or_default bits place false true (omega (arith, length-bits_of_words words))
    ∙ there_bit words place (omega arith))

-- a part of a list is a part of its front
within_front : (c s : ℕ) (front back : List Bool) → s + c ≤ length front → take c (drop s (front ++ back)) ≡ take c (drop s front)
within_front c s front back h =
    ap (take c) (drop-append-le s front back (omega arith)) ∙ take-append-le c (drop s front) back (omega (arith, length-drop s front))

-- as many as 64 bits of the first so many
first_bits : (m c : ℕ) (bits : List Bool) → c ≡ min m 64 → take 64 (take m bits) ≡ take c bits
first_bits m c bits e = elim (cases_lt m 64) [
  | inl short ↦
      let is : m ≡ c = omega arith in
      take_all 64 (take m bits) (omega (arith, length-take m bits)) ∙ ap (λ n. take n bits) is
  | inr long ↦
      let is : 64 ≡ c = omega arith in
      take-take 64 m bits (omega arith) ∙ ap (λ n. take n bits) is
]

-- the second one of two words from word q on, where there is one
pub record IsNext (words : List ℕ) (q high : ℕ) : Type 0 where
  pub there : q + 1 < length words → high ≡ get_or words (q + 1) 0
  pub none : length words ≤ q + 1 → high ≡ 0

-- so many bits from bit s of word q on are those of two words
two_words : (words : List ℕ) (q s c low high : ℕ) → q < length words → low < 2 ^ 64 → low ≡ get_or words q 0 → IsNext words q high → s < 64 → c ≤ 64 → 64 * q + s + c ≤ 64 * length words → take c (drop (64 * q + s) (bits_of_words words)) ≡ take c (drop s (word_bits low 64 ++ word_bits high 64))
two_words words q s c low high h fits is_low next short few within =
    let bits = bits_of_words words in
    let front = word_bits low 64 in
    let back = bits_of_words (drop (q + 1) words) in
    let from : drop (64 * q) bits ≡ front ++ back = bits_from words q h ∙ ap (λ x. word_bits x 64 ++ back) (sym is_low) in
    sym (ap (take c) (drop-drop s (64 * q) bits)) ∙ ap (λ l. take c (drop s l)) from ∙ elim (cases_lt (q + 1) (length words)) [
      | inl more ↦
          let rest = bits_of_words (drop (q + 1 + 1) words) in
          let behind : back ≡ word_bits high 64 ++ rest = ap bits_of_words (drop_more words (q + 1) 0 more) ∙ ap (λ x. word_bits x 64 ++ rest) (sym (next.there more)) in
          ap (λ l. take c (drop s (front ++ l))) behind
          ∙ ap (λ l. take c (drop s l)) (sym (append_assoc front (word_bits high 64) rest))
          ∙ within_front c s (front ++ word_bits high 64) rest (omega (arith, length-append front (word_bits high 64), length-word_bits low 64, length-word_bits high 64))
      | inr last ↦
          let all : s + c ≤ length front = omega (arith, length-word_bits low 64) in
          within_front c s front back all ∙ sym (within_front c s front (word_bits high 64) all)
    ]

-- word i of the bits, cut out of two words
pub cut_word : (words : List ℕ) (offset len i low high c word : ℕ) → offset + len ≤ 64 * length words → 64 * i < len → c ≡ min (len - 64 * i) 64 → low < 2 ^ 64 → low ≡ get_or words (offset / 64 + i) 0 → IsNext words (offset / 64 + i) high → word ≡ (high * 2 ^ 64 + low) / 2 ^ (offset % 64) % 2 ^ c → word ≡ word_at (bits_at words offset len) i
cut_word words offset len i low high c word held some is_c fits is_low next e =
    let bits = bits_of_words words in
    let q = offset / 64 + i in
    let s = offset % 64 in
    let m = len - 64 * i in
    let all = high * 2 ^ 64 + low in
    let few : c ≤ 64 = omega (arith, is_c) in
    let length_is : len ≡ 64 * i + m = omega arith in
    let place : offset + 64 * i ≡ 64 * q + s = omega arith in
    let within : 64 * q + s + c ≤ 64 * length words = omega (arith, is_c) in
    let part : take 64 (drop (64 * i) (bits_at words offset len)) ≡ word_bits word c =
    ap (λ n. take 64 (drop (64 * i) (take n (drop offset bits)))) length_is
    ∙ ap (take 64) (drop-take (64 * i) m (drop offset bits))
    ∙ first_bits m c (drop (64 * i) (drop offset bits)) is_c
    ∙ ap (take c) (drop-drop (64 * i) offset bits)
    ∙ ap (λ n. take c (drop n bits)) place
    ∙ two_words words q s c low high (omega arith) fits is_low next (omega arith) few within
    ∙ ap (λ l. take c (drop s l)) (sym (word_bits-append low 64 high 64 fits))
    ∙ ap (take c) (drop-word_bits all s 128 (omega arith))
    ∙ take-word_bits (all / 2 ^ s) c (128 - s) (omega arith)
    ∙ sym (word_bits_low (all / 2 ^ s) c)
    ∙ ap (λ x. word_bits x c) (sym e) in
    word_is (bits_at words offset len) i word c (subst (λ (x : ℕ). x < 2 ^ c) (sym e) (mod_below (all / 2 ^ s) (2 ^ c) (pow_pos c))) part

-- ---- bits that are written

-- the number that two lists of bits spell
pub number_joined : (xs ys : List Bool) → number_of (xs ++ ys) ≡ number_of ys * 2 ^ length xs + number_of xs
number_joined [] ys = omega arith
number_joined (b ∷ xs) ys =
    let m = number_of ys in
    let two : m * 2 ^ suc (length xs) ≡ 2 * (m * 2 ^ length xs) = ap (λ p. m * p) (pow-suc 2 (length xs)) ∙ sym (mul_assoc m (2 ^ length xs) 2) ∙ mul_comm _ 2 in
    omega (arith, two, number_joined xs ys)

-- more bits leave the words that are full
word_stays : (bits more : List Bool) (i : ℕ) → 64 * i + 64 ≤ length bits → word_at (bits ++ more) i ≡ word_at bits i
unfolding word_at
word_stays bits more i h =
    ap (λ l. number_of (take 64 l)) (drop-append-le (64 * i) bits more (omega arith))
    ∙ ap number_of (take-append-le 64 (drop (64 * i) bits) more (omega (arith, length-drop (64 * i) bits)))

words_stay : (bits more : List Bool) (n : ℕ) → 64 * n ≤ length bits → words_to (bits ++ more) n ≡ words_to bits n
words_stay bits more zero h = refl
words_stay bits more (suc n) h =
    let next : suc n ≡ n + 1 = omega arith in
    ap (words_to (bits ++ more)) next ∙ words_to_more (bits ++ more) n
    ∙ ap₂ (λ l x. l ++ x ∷ []) (words_stay bits more n (omega arith)) (word_stays bits more n (omega arith))
    ∙ sym (ap (words_to bits) next ∙ words_to_more bits n)

-- the number of the bits from a word on
spelled : (bits more : List Bool) (full next held word : ℕ) → next ≡ word_at bits full → length bits ≡ 64 * full + held → held < 64 → word ≡ number_of more → number_of (drop (64 * full) (bits ++ more)) ≡ word * 2 ^ held + next
unfolding word_at
spelled bits more full next held word is_next count open_word is_word =
    let tail = drop (64 * full) bits in
    let long : length tail ≡ held = omega (arith, length-drop (64 * full) bits) in
    let own : number_of tail ≡ next = sym (is_next ∙ ap number_of (take_all 64 tail (omega arith))) in
    ap number_of (drop-append-le (64 * full) bits more (omega arith))
    ∙ number_joined tail more
    ∙ ap₂ (λ n x. number_of more * 2 ^ n + x) long own
    ∙ ap (λ x. x * 2 ^ held + next) (sym is_word)

-- the words that a list of bits begins with, by its number
first_word : (bits : List Bool) (i : ℕ) → length (drop (64 * i) bits) ≤ 64 → word_at bits i ≡ number_of (drop (64 * i) bits)
unfolding word_at
first_word bits i h = ap number_of (take_all 64 (drop (64 * i) bits) h)

record IsCut (bits : List Bool) : Type 0 where
  pub low : number_of (take 64 bits) ≡ number_of bits % 2 ^ 64
  pub high : number_of (drop 64 bits) ≡ number_of bits / 2 ^ 64

cut_number : (bits : List Bool) → 64 ≤ length bits → IsCut bits
cut_number bits h =
    let a = take 64 bits in
    let b = drop 64 bits in
    let long : length a ≡ 64 = length-take-le 64 bits h in
    let below : number_of a < 2 ^ 64 = subst (λ (n : ℕ). number_of a < 2 ^ n) long (number_below a) in
    let whole : number_of bits ≡ number_of b * 2 ^ 64 + number_of a =
    ap number_of (sym (take-append-drop 64 bits)) ∙ number_joined a b ∙ ap (λ n. number_of b * 2 ^ n + number_of a) long in
    record { low = omega (arith, whole, below); high = omega (arith, whole, below) }

-- the bits of a word stay in the next word
pub packed_short : (bits more : List Bool) (words : List ℕ) (full next held word n after : ℕ) → IsPacked bits words full next held → word ≡ number_of more → n ≡ length more → held + n < 64 → after ≡ (word * 2 ^ held + next) % 2 ^ 64 → IsPacked (bits ++ more) words full after (held + n)
packed_short bits more words full next held word n after packed is_word is_n short e =
    let tail = drop (64 * full) (bits ++ more) in
    let count = length-append bits more in
    let long : length tail ≡ held + n = omega (arith, length-drop (64 * full) (bits ++ more), count, packed.count) in
    let number = spelled bits more full next held word packed.next packed.count (omega arith) is_word in
    let few : length tail ≤ 64 = omega arith in
    let small : 2 ^ length tail ≤ 2 ^ 64 = pow_mono few in
    record {
      words = packed.words ∙ sym (words_stay bits more full (omega (arith, packed.count)));
      next = omega (arith, e, number, number_below tail, small, first_word (bits ++ more) full few);
      count = omega (arith, count, packed.count);
    }

-- the bits for which a word has no room are those of the sum above it
past_room : (next held word : ℕ) → next < 2 ^ held → held < 64 → word / 2 ^ (64 - held) ≡ (word * 2 ^ held + next) / 2 ^ 64
past_room next held word below short =
    let whole : held + (64 - held) ≡ 64 = omega arith in
    let all = word * 2 ^ held + next in
    ap (λ n. n / 2 ^ (64 - held)) (sym (shr_high word held next below))
    ∙ shr-shr all held (64 - held)
    ∙ ap (λ n. all / 2 ^ n) whole

-- a full word is written
pub packed_full : (bits more : List Bool) (words : List ℕ) (full next held word n low high : ℕ) → IsPacked bits words full next held → word ≡ number_of more → n ≡ length more → held < 64 → n ≤ 64 → 64 ≤ held + n → full < length words → low ≡ (word * 2 ^ held + next) % 2 ^ 64 → high ≡ word / 2 ^ (64 - held) → IsPacked (bits ++ more) (set words full low) (full + 1) high (held + n - 64)
unfolding word_at
packed_full bits more words full next held word n low high packed is_word is_n open_word few many room is_low is_high =
    let both = bits ++ more in
    let tail = drop (64 * full) both in
    let own = drop (64 * full) bits in
    let count = length-append bits more in
    let long : length tail ≡ held + n = omega (arith, length-drop (64 * full) both, count, packed.count) in
    let open_long : length own ≡ held = omega (arith, length-drop (64 * full) bits, packed.count) in
    let is_next : next ≡ number_of own = packed.next ∙ first_word bits full (omega arith) in
    let below : next < 2 ^ held = subst (λ (n : ℕ). next < 2 ^ n) open_long (subst (λ (x : ℕ). x < 2 ^ length own) (sym is_next) (number_below own)) in
    let number = spelled bits more full next held word packed.next packed.count open_word is_word in
    let cut = cut_number tail (omega arith) in
    let low_is : low ≡ word_at both full = is_low ∙ ap (λ x. x % 2 ^ 64) (sym number) ∙ sym cut.low in
    let place : 64 * (full + 1) ≡ 64 * full + 64 = omega arith in
    let rest : drop (64 * (full + 1)) both ≡ drop 64 tail = ap (λ k. drop k both) place ∙ sym (drop-drop 64 (64 * full) both) in
    let short : length (drop (64 * (full + 1)) both) ≤ 64 = omega (arith, length-drop (64 * (full + 1)) both, count, packed.count) in
    record {
      words = take_more_set words full low room
          ∙ ap₂ (λ l x. l ++ x ∷ []) (packed.words ∙ sym (words_stay bits more full (omega (arith, packed.count)))) low_is
          ∙ sym (words_to_more both full);
      next = is_high ∙ past_room next held word below open_word ∙ ap (λ x. x / 2 ^ 64) (sym number) ∙ sym cut.high ∙ sym (first_word both (full + 1) short ∙ ap number_of rest);
      count = omega (arith, count, packed.count);
    }

-- the words are closed, by one more where some bits are held
pub closed_more : (bits : List Bool) (words : List ℕ) (full next held : ℕ) → IsPacked bits words full next held → 0 < held → held < 64 → full < length words → set words full next ≡ words_of bits ++ drop (word_count (length bits)) words
closed_more bits words full next held packed some open_word room =
    let count : word_count (length bits) ≡ full + 1 = omega (arith, packed.count) in
    front_and_rest (full + 1) (set words full next) _ _
    (take_more_set words full next room ∙ ap₂ (λ l x. l ++ x ∷ []) packed.words packed.next ∙ sym (words_to_more bits full))
    (drop-set-lt (full + 1) words full next (omega arith))
    ∙ sym (ap (λ n. words_to bits n ++ drop n words) count)

pub closed : (bits : List Bool) (words : List ℕ) (full next held : ℕ) → IsPacked bits words full next held → held ≡ 0 → words ≡ words_of bits ++ drop (word_count (length bits)) words
closed bits words full next held packed none =
    let count : word_count (length bits) ≡ full = omega (arith, packed.count) in
    front_and_rest full words _ _ packed.words refl ∙ sym (ap (λ n. words_to bits n ++ drop n words) count)

-- two words moved down by some bits
pub moved_is : (low high s : ℕ) → low < 2 ^ 64 → 0 < s → s < 64 → bit_or (high * 2 ^ (64 - s) % 2 ^ 64) (low / 2 ^ s) ≡ (high * 2 ^ 64 + low) / 2 ^ s % 2 ^ 64
moved_is low high s fits p q =
    let k = 64 - s in
    let whole : k + s ≡ 64 = omega arith in
    let turned : s + k ≡ 64 = omega arith in
    let small : low / 2 ^ s < 2 ^ k = shr_below low k s (subst (λ (n : ℕ). low < 2 ^ n) (sym whole) fits) in
    let low_half : (n l : ℕ) → l < 2 ^ k → n ≡ high * 2 ^ k + l → n % 2 ^ 64 ≡ high % 2 ^ s * 2 ^ k + l =
    λ n l h e. ap (λ w. n % 2 ^ w) (sym turned) ∙ mod-pow-add n s k
    ∙ ap₂ (λ a b. a % 2 ^ s * 2 ^ k + b) (ap (λ x. x / 2 ^ k) e ∙ shr_high high k l h) (ap (λ x. x % 2 ^ k) e ∙ mod_low high k l h) in
    let up = low_half (high * 2 ^ k) 0 (pow_pos k) (omega arith) in
    let up_is : high * 2 ^ k % 2 ^ 64 ≡ high % 2 ^ s * 2 ^ k = omega (arith, up) in
    let wide : high * 2 ^ 64 ≡ high * 2 ^ k * 2 ^ s = ap (λ n. high * 2 ^ n) (sym whole) ∙ ap (λ p. high * p) (pow-add 2 k s) ∙ sym (mul_assoc high (2 ^ k) (2 ^ s)) in
    let down : (high * 2 ^ 64 + low) / 2 ^ s ≡ high * 2 ^ k + low / 2 ^ s = ap (λ n. (n + low) / 2 ^ s) wide ∙ mul-add-div_right (pow_pos s) (high * 2 ^ k) low in
    ap (λ x. bit_or x (low / 2 ^ s)) up_is ∙ or_shifted (high % 2 ^ s) k (low / 2 ^ s) small
    ∙ sym (low_half ((high * 2 ^ 64 + low) / 2 ^ s) (low / 2 ^ s) small down)

-- the number of the bits that a word picks
pub pext_is : (src mask : ℕ) → pext src mask ≡ number_of (picked_bits src mask)
unfolding pext
pext_is src mask = refl

pub full_pext : (src mask : ℕ) → src < 2 ^ 64 → mask ≡ 2 ^ 64 - 1 → src ≡ pext src mask
full_pext src mask fits full =
    sym (pext_is src mask
    ∙ ap number_of (picked_full_word mask (word_bits src 64) full ∙ take_all 64 (word_bits src 64) (omega (arith, length-word_bits src 64)))
    ∙ number_of-word_bits src 64
    ∙ mod-eq_of_lt fits)

-- no bit is packed
pub none_packed : (words : List ℕ) (full next held : ℕ) → full ≡ 0 → next ≡ 0 → held ≡ 0 → IsPacked [] words full next held
unfolding word_at
none_packed words full next held e f g =
    let none : word_at [] 0 ≡ 0 = refl in
    record {
      words = ap (λ n. take n words) e ∙ sym (ap (λ n. map (word_at []) (range_with_len 0 n)) e);
      next = f ∙ sym (ap (word_at []) e ∙ none);
      count = omega (arith, e, g);
    }

-- a list that two functions of the place make, one behind the other
pub places_joined : {X : Type 0} (f : ℕ → X) (a n m : ℕ) → map f (range_with_len a (n + m)) ≡ map f (range_with_len a n) ++ map f (range_with_len (a + n) m)
places_joined f a n zero = ap (λ k. map f (range_with_len a k)) (add-zero n) ∙ sym (append-nil (map f (range_with_len a n)))
places_joined f a n (suc m) =
    let front = map f (range_with_len a n) in
    let next : n + suc m ≡ n + m + 1 = omega arith in
    let last : suc m ≡ m + 1 = omega arith in
    ap (λ k. map f (range_with_len a k)) next
    ∙ map-range_with_len_more f a (n + m) (a + n + m) (omega arith)
    ∙ ap (λ l. l ++ f (a + n + m) ∷ []) (places_joined f a n m)
    ∙ append_assoc front (map f (range_with_len (a + n) m)) (f (a + n + m) ∷ [])
    ∙ ap (λ l. front ++ l) (sym (ap (λ k. map f (range_with_len (a + n) k)) last ∙ map-range_with_len_more f (a + n) m (a + n + m) refl))

pub places_behind : {X : Type 0} (f : ℕ → X) (n m : ℕ) → map f (range_with_len 0 n) ++ map f (range_with_len n m) ≡ map f (range_with_len 0 (n + m))
places_behind f n m =
    ap (λ k. map f (range_with_len 0 n) ++ map f (range_with_len k m)) (sym (zero-add n)) ∙ sym (places_joined f 0 n m)

-- ---- words of a list that a function of the place makes

-- as many as 64 places of the first so many
first_places : {X : Type 0} (f : ℕ → X) (s m c : ℕ) → c ≡ min m 64 → take 64 (map f (range_with_len s m)) ≡ map f (range_with_len s c)
first_places f s m c e = elim (cases_lt m 64) [
  | inl short ↦
      let is : m ≡ c = omega arith in
      take_all 64 (map f (range_with_len s m)) (omega (arith, length-map-range_with_len f s m)) ∙ ap (λ n. map f (range_with_len s n)) is
  | inr long ↦
      let is : 64 ≡ c = omega arith in
      take-map-range_with_len f s m 64 (omega arith) ∙ ap (λ n. map f (range_with_len s n)) is
]

-- word i of the list
pub word_of_places : (f : ℕ → Bool) (n i c : ℕ) → 64 * i ≤ n → c ≡ min (n - 64 * i) 64 → word_at (map f (range_with_len 0 n)) i ≡ number_of (map f (range_with_len (64 * i) c))
unfolding word_at
word_of_places f n i c h e =
    let m = n - 64 * i in
    let all : n ≡ 64 * i + m = omega arith in
    let front = map f (range_with_len 0 (64 * i)) in
    let rest = map f (range_with_len (64 * i) m) in
    let cut : drop (64 * i) (map f (range_with_len 0 n)) ≡ rest =
    ap (λ k. drop (64 * i) (map f (range_with_len 0 k))) all
    ∙ ap (drop (64 * i)) (sym (places_behind f (64 * i) m))
    ∙ drop_at front rest (64 * i) (length-map-range_with_len f 0 (64 * i)) in
    ap (λ l. number_of (take 64 l)) cut ∙ ap number_of (first_places f (64 * i) m c e)
