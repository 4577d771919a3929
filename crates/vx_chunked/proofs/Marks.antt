-- The set bits of a list of bits that lie in a chunk, as places.
use Rattle.std.proofs.Common.{◌≡◌, refl, ℕ, zero, suc, ◌+◌, ◌*◌, ◌^◌, ◌<◌, ◌≤◌, Bool, true, false, cond, List, [], ◌∷◌, ◌++◌, length, get_or, take, drop, replicate, map, ◌-◌, Option, Some, sym, ap, ap₂, subst, ◌∙◌, inl, inr, arith}
use Rattle.std.specs.Prelude.{slice_get}
use Rattle.std.specs.List.{All, items_where_true, range_with_len}
use Rattle.std.specs.Int.RustNames.{count_ones}
use Rattle.vx_bits.specs.BitBuffer.{true_count_of}
use Rattle.vx_bits.specs.Words.{word_count}
use Rattle.vx_bits.proofs.WordBits.{length-word_bits, true_count_of-word_bits}
use Rattle.vx_bits.proofs.WordsJoined.{all_words_joined, bits_of_words_more}
use Rattle.vx_filter.specs.Compact.{bits_of_words}
use Rattle.vx_mask.specs.Positions.{AllBits}
use Rattle.vx_mask.proofs.PositionLists.{positions_false, positions-shift}
use Rattle.vx_mask.proofs.RankedItems.{items_at_the_set}
use Rattle.vx_mask.proofs.RunLists.{set_of_passed}
use Rattle.std.proofs.lemmas.Bool.{cases_lt}
use Rattle.std.proofs.lemmas.Nat.{ones_le_self}
use Rattle.vx_mask.proofs.LowestBit.{positions_done}
use Rattle.std.proofs.lemmas.List.{append-nil, append_assoc, drop_all, get_or-append-add, get_or-replicate, length-append, length-map, take_all, take_more}
use Rattle.std.proofs.lemmas.List.FromFn.{length-range_with_len}
use Rattle.std.proofs.Math.Seq.{take-append_seam}
use Rattle.std.proofs.lemmas.List.{drop_more, drop-drop, take-append-drop, length-take-le, length-drop}
use Rattle.std.proofs.lemmas.Simd.{map-map}
use Rattle.vx_bits.specs.Words.{word_at, word_bits}
use Rattle.vx_mask.specs.Positions.{positions, set_of}
use Rattle.vx_mask.proofs.PositionLists.{positions-append, length-positions}
use Rattle.vx_chunked.specs.Positions.{AscendFrom, places_of_words, positions_from}
use Rattle.vx_chunked.proofs.Ascends.{ascend_below}
use Rattle.vx_chunked.proofs.Handed.{positions_ascend}
use Rattle.vx_decoder.proofs.ReadPlaces.{part_at}
use Rattle.vx_filter.proofs.Copies.{length-bits_of_words}
use Rattle.vx_lemmas.proofs.Picked.{picked_front}

bits_at : (at : ℕ) (bits : List Bool) → at < length bits → positions_from at bits ≡ cond (get_or bits at false) (at ∷ positions_from (at + 1) bits) (positions_from (at + 1) bits)
unfolding positions_from
bits_at at bits p = ap (positions at) (drop_more bits at false p)

-- no set bit lies before where the chunk begins
pub passed_before : (offset base high first n : ℕ) (bits : List Bool) → first + n ≤ length bits → (0 < n → offset + (first + n) ≤ base) → AscendFrom base high (map (λ i. offset + i) (positions_from first bits)) → positions_from first bits ≡ positions_from (first + n) bits
passed_before offset base high first zero bits p h a = ap (λ k. positions_from k bits) (omega arith)
passed_before offset base high first (suc n) bits p h a =
    by_bit (get_or bits first false) (bits_at first bits (omega arith))
    (λ rest. passed_before offset base high (first + 1) n bits (omega arith) (λ q. omega (arith, h (omega arith))) rest)
  where
    by_bit : (b : Bool) → positions_from first bits ≡ cond b (first ∷ positions_from (first + 1) bits) (positions_from (first + 1) bits) → (AscendFrom base high (map (λ i. offset + i) (positions_from (first + 1) bits)) → positions_from (first + 1) bits ≡ positions_from (first + 1 + n) bits) → positions_from first bits ≡ positions_from (first + suc n) bits
    by_bit true e later =
        let all = subst (λ (l : List ℕ). AscendFrom base high (map (λ i. offset + i) l)) e a in
        absurd (omega (arith, all.0, h (omega arith)))
    by_bit false e later =
        e ∙ later (subst (λ (l : List ℕ). AscendFrom base high (map (λ i. offset + i) l)) e a)
        ∙ ap (λ k. positions_from k bits) (omega arith)

-- the set bits of the next n, and those after them
pub positions_cut : (at n : ℕ) (bits : List Bool) → at + n ≤ length bits → positions_from at bits ≡ positions at (take n (drop at bits)) ++ positions_from (at + n) bits
unfolding positions_from
positions_cut at n bits h =
    let part = drop at bits in
    let long : at + length (take n part) ≡ at + n = omega (arith, length-take-le n part (omega (arith, length-drop at bits))) in
    ap (positions at) (sym (take-append-drop n part)) ∙ positions-append at (take n part) (drop n part)
    ∙ ap₂ (λ k l. positions at (take n part) ++ positions k l) long (drop-drop n at bits)

-- positions as places
pub same_places : (offset start base from : ℕ) (bits : List Bool) → (0 < length bits → offset + start ≡ base + from) → map (λ i. offset + i) (positions start bits) ≡ map (λ p. base + p) (positions from bits)
same_places offset start base from [] h = refl
same_places offset start base from (x ∷ xs) h =
    let bits = x ∷ xs in
    sym (positions-shift offset start bits) ∙ ap (λ n. positions n bits) (h (omega arith)) ∙ positions-shift base from bits

-- where the first bit lies beyond, all do
positions_beyond : (offset mid at : ℕ) (bits : List Bool) → (0 < length bits → mid ≤ offset + at) → All (λ p. mid ≤ p) (map (λ i. offset + i) (positions at bits))
positions_beyond offset mid at [] h k d p = absurd (omega arith)
positions_beyond offset mid at (true ∷ bits) h zero d p = h (omega arith)
positions_beyond offset mid at (true ∷ bits) h (suc k) d p = positions_beyond offset mid (at + 1) bits (λ q. omega (arith, h (omega arith))) k d (omega arith)
positions_beyond offset mid at (false ∷ bits) h k d p = positions_beyond offset mid (at + 1) bits (λ q. omega (arith, h (omega arith))) k d p

pub beyond_from : (offset mid at : ℕ) (bits : List Bool) → (at < length bits → mid ≤ offset + at) → All (λ p. mid ≤ p) (map (λ i. offset + i) (positions_from at bits))
unfolding positions_from
beyond_from offset mid at bits h = positions_beyond offset mid at (drop at bits) (λ q. h (omega (arith, length-drop at bits)))

-- a word has as many positions as set bits
pub ones_of_word : (at word : ℕ) → word < 2 ^ 64 → length (positions at (word_bits word 64)) ≡ count_ones word
ones_of_word at word h = length-positions at (word_bits word 64) ∙ true_count_of-word_bits word 64 h

-- the positions of words, one word more
pub words_more : (words : List ℕ) (w from : ℕ) → w < length words → positions from (bits_of_words (take (w + 1) words)) ≡ positions from (bits_of_words (take w words)) ++ positions (from + 64 * w) (word_bits (get_or words w 0) 64)
words_more words w from h =
    let long : from + length (bits_of_words (take w words)) ≡ from + 64 * w = omega (arith, length-bits_of_words (take w words), length-take-le w words (omega arith)) in
    ap (λ l. positions from (bits_of_words l)) (take_more words w 0 h) ∙ ap (positions from) (bits_of_words_more (take w words) (get_or words w 0))
    ∙ positions-append from (bits_of_words (take w words)) (word_bits (get_or words w 0) 64)
    ∙ ap (λ n. positions from (bits_of_words (take w words)) ++ positions n (word_bits (get_or words w 0) 64)) long

-- one word more has its set bits more
pub ones_more : (front : List ℕ) (word from : ℕ) → word < 2 ^ 64 → length (positions from (bits_of_words (front ++ word ∷ []))) ≡ length (positions from (bits_of_words front)) + count_ones word
ones_more front word from h =
    let next = from + length (bits_of_words front) in
    ap length (ap (positions from) (bits_of_words_more front word) ∙ positions-append from (bits_of_words front) (word_bits word 64))
    ∙ length-append (positions from (bits_of_words front)) (positions next (word_bits word 64))
    ∙ ap (λ n. length (positions from (bits_of_words front)) + n) (ones_of_word next word h)

-- a list that has as many items as all is all of them
pub all_of_front : {X : Type 0} (xs ys all : List X) → xs ++ ys ≡ all → length all ≤ length xs → xs ≡ all
all_of_front xs [] all e h = sym (append-nil xs) ∙ e
all_of_front xs (y ∷ ys) all e h = absurd (omega (arith, h, ap length e, length-append xs (y ∷ ys)))

-- before the first word
pub no_words : (base : ℕ) (rest : List ℕ) → ([] ++ positions base (word_bits 0 64)) ++ rest ≡ rest
no_words base rest = sym (ap (λ l. l ++ rest) (positions_done base [] ([] ++ positions base (word_bits 0 64)) 0 (omega (arith, ones_le_self 0)) refl))

-- the words from one on
pub words_cut : (words : List ℕ) (w at : ℕ) → w < length words → positions at (bits_of_words (drop w words)) ≡ positions at (word_bits (get_or words w 0) 64) ++ positions (at + 64) (bits_of_words (drop (w + 1) words))
words_cut words w at h =
    let x = get_or words w 0 in
    let rest = bits_of_words (drop (w + 1) words) in
    ap (λ l. positions at (bits_of_words l)) (drop_more words w 0 h) ∙ positions-append at (word_bits x 64) rest
    ∙ ap (λ n. positions at (word_bits x 64) ++ positions (at + n) rest) (length-word_bits x 64)

-- a word that is done with, and the words behind it
module _ (from base left used : ℕ) (words front : List ℕ) (none : left ≡ 0) where
  done : front ≡ front ++ positions base (word_bits left 64)
  done = positions_done base front (front ++ positions base (word_bits left 64)) left (omega (arith, none, ones_le_self left)) refl

  pub more_words : (all : List ℕ) → (front ++ positions base (word_bits left 64)) ++ positions (from + 64 * used) (bits_of_words (drop used words)) ≡ all → length front < length all → used < length words
  more_words all e h = elim (cases_lt used (length words)) [
    | inl here ↦ here
    | inr past ↦ let rest = positions (from + 64 * used) (bits_of_words (drop used words)) in
        let gone : length rest ≡ 0 = ap (λ l. length (positions (from + 64 * used) (bits_of_words l))) (drop_all used words past) in
        absurd (omega (arith, h, ap length e, length-append (front ++ positions base (word_bits left 64)) rest, ap length done, gone))
  ]

  pub next_word : used < length words → (front ++ positions (from + 64 * used) (word_bits (get_or words used 0) 64)) ++ positions (from + 64 * (used + 1)) (bits_of_words (drop (used + 1) words)) ≡ (front ++ positions base (word_bits left 64)) ++ positions (from + 64 * used) (bits_of_words (drop used words))
  next_word here =
      let at = from + 64 * used in
      let word = positions at (word_bits (get_or words used 0) 64) in
      let next : from + 64 * (used + 1) ≡ at + 64 = omega arith in
      ap (λ n. (front ++ word) ++ positions n (bits_of_words (drop (used + 1) words))) next
      ∙ append_assoc front word (positions (at + 64) (bits_of_words (drop (used + 1) words))) ∙ ap (λ l. front ++ l) (sym (words_cut words used at here))
      ∙ ap (λ l. l ++ positions at (bits_of_words (drop used words))) done

-- the words of bits have their positions, and zeros past them
module _ (bits : List Bool) (words : List ℕ) (same : words ≡ map (word_at bits) (range_with_len 0 (word_count (length bits)))) where
  abbrev pub padding : ℕ
  padding = 64 * word_count (length bits) - length bits

  pub words_marked : (from : ℕ) → positions from (bits_of_words words) ≡ positions from bits
  words_marked from =
      ap (λ l. positions from (bits_of_words l)) same ∙ ap (positions from) (all_words_joined bits) ∙ positions-append from bits (replicate padding false)
      ∙ ap (λ l. positions from bits ++ l) (positions_false (from + length bits) padding) ∙ append-nil (positions from bits)

  pub words_clear : AllBits (bits_of_words words) (length bits) (64 * word_count (length bits)) false
  words_clear k from to =
      let at : k ≡ length bits + (k - length bits) = omega (arith, from) in
      ap (λ l. get_or (bits_of_words l) k false) same ∙ ap (λ l. get_or l k false) (all_words_joined bits) ∙ ap (λ n. get_or (bits ++ replicate padding false) n false) at
      ∙ get_or-append-add bits (replicate padding false) (k - length bits) false ∙ get_or-replicate padding (k - length bits) false false (omega (arith, from, to))

-- the words of bits that others stand behind have their positions, and zeros past them
module _ (bits : List Bool) (words tail : List ℕ) (len : ℕ) (same : words ≡ map (word_at bits) (range_with_len 0 (word_count (length bits)))) (long : len ≡ length bits) where
  pub front_is : take (word_count len) (words ++ tail) ≡ words
  front_is =
      let wide : length words ≡ word_count (length bits) = ap length same ∙ simp (length-map, length-range_with_len) in
      ap (λ n. take n (words ++ tail)) (ap word_count long ∙ sym wide) ∙ take-append_seam words tail

  pub front_marked : (from : ℕ) → places_of_words from len (words ++ tail) ≡ positions from bits
  front_marked from = ap (λ l. positions from (bits_of_words l)) front_is ∙ words_marked bits words same from

  pub front_count : (from : ℕ) → length (positions 0 (bits_of_words words)) ≡ length (places_of_words from len (words ++ tail))
  front_count from =
      length-positions 0 (bits_of_words words) ∙ sym (length-positions from (bits_of_words words))
      ∙ ap (λ l. length (positions from (bits_of_words l))) (sym front_is)

  pub front_clear : AllBits (bits_of_words (take (word_count len) (words ++ tail))) len (64 * word_count len) false
  front_clear k from to =
      ap (λ l. get_or (bits_of_words l) k false) front_is ∙ words_clear bits words same k (omega (arith, long, from)) (subst (λ (n : ℕ). k < 64 * word_count n) long to)

-- what bits pick of items is what stands at their set positions, where those past the items are
-- clear
pub picked_places : {X : Type 0} (bits : List Bool) (src : List X) → length src ≤ length bits → AllBits bits (length src) (length bits) false → map Some (items_where_true bits src) ≡ map (slice_get src) (set_of bits)
picked_places bits src h clear =
    let n = length src in
    let same : set_of (take n bits) ≡ set_of bits = sym (set_of_passed bits n (length bits) h (omega arith) clear) ∙ ap set_of (take_all (length bits) bits (omega arith)) in
    ap (map Some) (sym (picked_front n bits src (omega arith))) ∙ items_at_the_set (take n bits) src (length-take-le n bits h) ∙ ap (map (slice_get src)) same

-- what bits pick of a chunk's values is what stands at their set positions, where the first bit has
-- place `from`
pub marked_read : {X : Type 0} (values dst : List X) (words : List ℕ) (from len : ℕ) → from + len ≤ length values → len ≤ 64 * length words → AllBits (bits_of_words words) len (64 * length words) false → dst ≡ items_where_true (bits_of_words words) (take len (drop from values)) → map Some dst ≡ map (slice_get values) (positions from (bits_of_words words))
marked_read values dst words from len fits enough clear e =
    let bits = bits_of_words words in
    let src = take len (drop from values) in
    let long : length src ≡ len = length-take-le len (drop from values) (omega (arith, length-drop from values)) in
    let wide = length-bits_of_words words in
    let clear_here = subst (λ (n : ℕ). AllBits bits n (length bits) false) (sym long) (subst (λ (n : ℕ). AllBits bits len n false) (sym wide) clear) in
    let same : set_of (take len bits) ≡ set_of bits = sym (set_of_passed bits len (length bits) (omega (arith, wide)) (omega arith) (subst (λ (n : ℕ). AllBits bits len n false) (sym wide) clear)) ∙ ap set_of (take_all (length bits) bits (omega arith)) in
    let below = ascend_below 0 len len (set_of (take len bits)) (positions_ascend 0 len 0 (take len bits) (omega arith) (omega (arith, length-take-le len bits (omega (arith, wide))))) (omega arith) in
    let at : from + 0 ≡ from = omega arith in
    ap (map Some) e ∙ picked_places bits src (omega (arith, long, wide)) clear_here ∙ ap (map (slice_get src)) (sym same)
    ∙ part_at values from len (set_of (take len bits)) below ∙ ap (map (λ p. slice_get values (from + p))) same ∙ sym (map-map (slice_get values) (λ p. from + p) (set_of bits))
    ∙ ap (map (slice_get values)) (sym (positions-shift from 0 bits) ∙ ap (λ k. positions k bits) at)

-- values that were compacted are those at the set positions, where there are as many as places
pub compacted_read : {X : Type 0} (values dst : List X) (words : List ℕ) (from len used : ℕ) → from + len ≤ length values → len ≤ 64 * length words → AllBits (bits_of_words words) len (64 * length words) false → length dst ≡ length (positions from (bits_of_words words)) → used ≡ true_count_of (bits_of_words words) → take used dst ≡ items_where_true (bits_of_words words) (take len (drop from values)) → map Some dst ≡ map (slice_get values) (positions from (bits_of_words words))
compacted_read values dst words from len used fits enough clear room count front =
    let whole = take_all used dst (omega (arith, count, room, length-positions from (bits_of_words words))) in
    marked_read values dst words from len fits enough clear (sym whole ∙ front)

pub none_read : {X : Type 0} (f : ℕ → Option X) (dst : List X) (places : List ℕ) → length dst ≡ 0 → length places ≡ 0 → map Some dst ≡ map f places
none_read f [] [] p q = refl
none_read f (x ∷ dst) places p q = absurd (omega arith)
none_read f [] (x ∷ places) p q = absurd (omega arith)
