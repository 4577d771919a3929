-- The bits of a mask's words, as many as there are rows.
use Rattle.std.proofs.Common.{◌≡◌, ℕ, ◌+◌, ◌-◌, ◌*◌, ◌/◌, ◌^◌, ◌<◌, ◌≤◌, List, ◌++◌, length, get_or, take, drop, inl, inr, sym, ap, ◌∙◌, arith}
use Rattle.std.proofs.lemmas.Bool.{cases_lt}
use Rattle.std.proofs.lemmas.List.{drop_at, drop_more, drop-take, length-take-le, take-append-drop, take-append-le, take-take, take_all}
use Rattle.std.proofs.lemmas.Grind.{flat_map-append}
use Rattle.vx_bits.specs.Words.{word_at, word_bits}
use Rattle.vx_bits.proofs.WordBits.{length-word_bits, take-word_bits}
use Rattle.vx_bits.proofs.WordLists.{word_is}
use Rattle.vx_filter.specs.Compact.{bits_of_words}
use Rattle.vx_words.specs.Masks.{count_of, mask_fault}
use Rattle.vx_words.proofs.MaskWords.{IsMask, count_within, is_mask, last_word_below}
use Rattle.vx_filter.proofs.Copies.{length-bits_of_words}

pub length-rows : (rows : ℕ) (words : List ℕ) → IsMask rows words → length (take rows (bits_of_words words)) ≡ rows
length-rows rows words mask = length-take-le rows (bits_of_words words) (omega (arith, length-bits_of_words words, mask.lengths))

-- the first words have no more set bits than bits
pub words_in_rows : (words : List ℕ) (w : ℕ) → count_of (take w words) ≤ 64 * w
words_in_rows words w = elim (cases_lt w (length words)) [
  | inl h ↦ omega (arith, count_within (take w words), length-take-le w words (omega arith))
  | inr h ↦ omega (arith, count_within words, ap count_of (take_all w words h))
]

-- the bits from a word on are its own, and then those of the words behind it
pub bits_from : (words : List ℕ) (w : ℕ) → w < length words → drop (64 * w) (bits_of_words words) ≡ word_bits (get_or words w 0) 64 ++ bits_of_words (drop (w + 1) words)
bits_from words w h =
    let x = get_or words w 0 in
    let front = bits_of_words (take w words) in
    let back = bits_of_words (drop (w + 1) words) in
    let whole : bits_of_words words ≡ front ++ (word_bits x 64 ++ back) =
    ap bits_of_words (sym (take-append-drop w words)) ∙ flat_map-append (λ (y : ℕ). word_bits y 64) (take w words) (drop w words)
    ∙ ap (λ l. front ++ bits_of_words l) (drop_more words w 0 h) in
    let long : length front ≡ 64 * w = omega (arith, length-bits_of_words (take w words), length-take-le w words (omega arith)) in
    ap (drop (64 * w)) whole ∙ drop_at front (word_bits x 64 ++ back) (64 * w) long

-- the first bits of a word
word_front : (words : List ℕ) (w n : ℕ) → w < length words → n ≤ 64 → take n (drop (64 * w) (bits_of_words words)) ≡ word_bits (get_or words w 0) n
word_front words w n h few =
    let x = get_or words w 0 in
    ap (take n) (bits_from words w h)
    ∙ take-append-le n (word_bits x 64) (bits_of_words (drop (w + 1) words)) (omega (arith, length-word_bits x 64))
    ∙ take-word_bits x n 64 few

-- a word of a mask is the word of its rows
pub row_word : (rows : ℕ) (words : List ℕ) (w : ℕ) → w < length words → get_or words w 0 < 2 ^ 64 → mask_fault rows words ≡ 0 → get_or words w 0 ≡ word_at (take rows (bits_of_words words)) w
row_word rows words w h fits e =
    let mask = is_mask rows words e in
    let bits = bits_of_words words in
    elim (cases_lt rows (64 * w + 64)) [
      | inr whole ↦
          let more : rows ≡ 64 * w + (rows - 64 * w) = omega arith in
          word_is (take rows bits) w (get_or words w 0) 64 fits
          (ap (λ n. take 64 (drop (64 * w) (take n bits))) more
          ∙ ap (take 64) (drop-take (64 * w) (rows - 64 * w) bits)
          ∙ take-take 64 (rows - 64 * w) (drop (64 * w) bits) (omega arith)
          ∙ word_front words w 64 h (omega arith))
      | inl part ↦
          let n = rows - 64 * w in
          let more : rows ≡ 64 * w + n = omega (arith, mask.lengths) in
          let last : w ≡ rows / 64 = omega (arith, mask.lengths) in
          let few : n ≤ 64 = omega arith in
          let cut : drop (64 * w) (take rows bits) ≡ word_bits (get_or words w 0) n =
          ap (λ m. drop (64 * w) (take m bits)) more ∙ drop-take (64 * w) n bits ∙ word_front words w n h few in
          word_is (take rows bits) w (get_or words w 0) n (last_word_below rows words w e h fits (omega arith))
          (take_all 64 (drop (64 * w) (take rows bits)) (omega (arith, ap length cut, length-word_bits (get_or words w 0) n)) ∙ cut)
    ]

-- a word is the word of all bits
pub word_of_words : (words : List ℕ) (w : ℕ) → w < length words → get_or words w 0 < 2 ^ 64 → get_or words w 0 ≡ word_at (bits_of_words words) w
word_of_words words w h fits = word_is (bits_of_words words) w (get_or words w 0) 64 fits (word_front words w 64 h (omega arith))
