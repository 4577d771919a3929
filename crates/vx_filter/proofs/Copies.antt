-- Items that are copied to the front of another list.
use Rattle.std.proofs.Common.{◌≡◌, ℕ, suc, ◌+◌, ◌-◌, ◌*◌, ◌^◌, ◌<◌, ◌≤◌, Bool, true, false, cond, List, [], ◌∷◌, ◌++◌, length, get_or, take, drop, set, map, bit_and, Option, Some, inl, inr, refl, sym, ap, subst, ◌∙◌, arith, append_assoc, append-nil}
use Rattle.std.specs.Int.RustNames.{count_ones}
use Rattle.std.specs.List.{All, items_where_true, range_with_len, slice_get}
use Rattle.std.proofs.lemmas.List.{drop-set-lt, drop_more, flat_map_more, get_or-append-add, get_or_append_left, length-append, length-drop, length-take-le, map-append, take-append-drop, take_all, take_more, take_more_set, get_or_default}
use Rattle.std.proofs.lemmas.Grind.{flat_map-append}
use Rattle.std.proofs.lemmas.Bool.{cases_lt}
use Rattle.std.proofs.lemmas.List.Sums.{sum_by-append}
use Rattle.std.proofs.lemmas.List.Elements.{All-cons, All-nil, All-tail}
use Rattle.std.proofs.lemmas.Nat.{zero_from_ones}
use Rattle.std.proofs.lemmas.List.FromFn.{get_or-range_with_len, length-range_with_len}
use Rattle.std.proofs.lemmas.Slice.{drop-put_mid, take-put_mid}
use borrow.Rule.Slice.PartMut.{put_mid}
use Rattle.std.proofs.lemmas.Option.{slice_get-get_or}
use lib.Count.{count_trailing_zeros}
use Rattle.vx_bits.specs.BitBuffer.{true_count_of}
use Rattle.vx_bits.specs.Words.{word_bits}
use Rattle.vx_bits.proofs.WordBits.{length-word_bits, true_count_of-word_bits}
use Rattle.vx_mask.specs.Positions.{AllBits, positions, set_of}
use Rattle.vx_mask.proofs.PositionLists.{positions-append}
use Rattle.vx_filter.specs.Compact.{IsLowestRun, bits_of_words}
use Rattle.vx_mask.proofs.LowestBit.{lowest_position, no_positions}
use Rattle.vx_mask.proofs.RunLists.{set_of_passed}
use Rattle.vx_filter.proofs.Picks.{picked_at_the_set}
use Rattle.vx_filter.proofs.Bytes.{All-right}
use Rattle.vx_filter.proofs.Moves.{full_word_places, same_further}
use Rattle.vx_lemmas.proofs.Picked.{picked_front, cut_picked}

-- a word has 64 bits
pub length-bits_of_words : (words : List ℕ) → length (bits_of_words words) ≡ 64 * length words
length-bits_of_words [] = refl
length-bits_of_words (w ∷ words) = omega (arith, length-append (word_bits w 64) (bits_of_words words), length-word_bits w 64, length-bits_of_words words)

-- the bits of the first words and of one more
pub bits_more : (words : List ℕ) (w : ℕ) → w < length words → bits_of_words (take (w + 1) words) ≡ bits_of_words (take w words) ++ word_bits (get_or words w 0) 64
bits_more words w h = ap bits_of_words (take_more words w 0 h) ∙ sym (flat_map_more (λ (x : ℕ). word_bits x 64) [] (take w words) (get_or words w 0))

-- how many bits of the first words and of one more are set
count_more : (words : List ℕ) (w : ℕ) → w < length words → get_or words w 0 < 2 ^ 64 → true_count_of (bits_of_words (take (w + 1) words)) ≡ true_count_of (bits_of_words (take w words)) + count_ones (get_or words w 0)
count_more words w h fits =
    ap true_count_of (bits_more words w h) ∙ sum_by-append (λ bit. cond bit 1 0) (bits_of_words (take w words)) (word_bits (get_or words w 0) 64)
    ∙ ap (λ n. true_count_of (bits_of_words (take w words)) + n) (true_count_of-word_bits (get_or words w 0) 64 fits)

-- the words that are left
words_behind : (words : List ℕ) (w : ℕ) → bits_of_words words ≡ bits_of_words (take w words) ++ bits_of_words (drop w words)
words_behind words w = ap bits_of_words (sym (take-append-drop w words)) ∙ flat_map-append (λ (x : ℕ). word_bits x 64) (take w words) (drop w words)

count_below : (words : List ℕ) (w : ℕ) → true_count_of (bits_of_words (take w words)) ≤ true_count_of (bits_of_words words)
count_below words w = omega (arith, ap true_count_of (words_behind words w), sum_by-append (λ bit. cond bit 1 0) (bits_of_words (take w words)) (bits_of_words (drop w words)))

-- the places of the first words and of one more
pub words_more : (words : List ℕ) (w : ℕ) → w < length words → set_of (bits_of_words (take (w + 1) words)) ≡ set_of (bits_of_words (take w words)) ++ positions (64 * w) (word_bits (get_or words w 0) 64)
words_more words w h =
    let front = bits_of_words (take w words) in
    let word = get_or words w 0 in
    let long : 0 + length front ≡ 64 * w = omega (arith, length-bits_of_words (take w words), length-take-le w words (omega arith)) in
    ap set_of (bits_more words w h) ∙ positions-append 0 front (word_bits word 64) ∙ ap (λ n. set_of front ++ positions n (word_bits word 64)) long

-- bits that are clear from a length on are set below it
positions_clear : (at : ℕ) (bits : List Bool) (len : ℕ) → ((k : ℕ) → len ≤ at + k → k < length bits → get_or bits k false ≡ false) → All (λ p. p < len) (positions at bits)
positions_clear at [] len h = All-nil (λ p. p < len)
positions_clear at (true ∷ bits) len h =
    let here : at < len = elim (cases_lt at len) [ inl below ↦ below | inr past ↦ let no : true ≡ false = h 0 (omega arith) (omega arith) in cc ] in
    All-cons (λ p. p < len) at (positions (at + 1) bits) here (positions_clear (at + 1) bits len (λ k p q. h (suc k) (omega arith) (omega arith)))
positions_clear at (false ∷ bits) len h = positions_clear (at + 1) bits len (λ k p q. h (suc k) (omega arith) (omega arith))

-- so the places of a word lie within the items
pub word_clear : (words : List ℕ) (w len : ℕ) → w < length words → AllBits (bits_of_words words) len (64 * length words) false → All (λ p. p < len) (positions (64 * w) (word_bits (get_or words w 0) 64))
word_clear words w len h clear =
    let word = get_or words w 0 in
    let front = bits_of_words (take w words) in
    let long = length-bits_of_words (take w words) in
    let short = length-take-le w words (omega arith) in
    let whole : bits_of_words words ≡ front ++ (word_bits word 64 ++ bits_of_words (drop (w + 1) words)) = words_behind words w ∙ ap (λ l. front ++ bits_of_words l) (drop_more words w 0 h) in
    positions_clear (64 * w) (word_bits word 64) len (λ k p q.
    let inside : k < 64 = omega (arith, length-word_bits word 64) in
    let at : 64 * w + k ≡ length front + k = omega (arith, long, short) in
    sym (ap (λ l. get_or l (64 * w + k) false) whole ∙ ap (λ n. get_or (front ++ (word_bits word 64 ++ bits_of_words (drop (w + 1) words))) n false) at ∙ get_or-append-add front (word_bits word 64 ++ bits_of_words (drop (w + 1) words)) k false ∙ get_or_append_left (word_bits word 64) (bits_of_words (drop (w + 1) words)) false k q)
    ∙ clear (64 * w + k) p (omega arith))

module _ {X : Type 0} where
  -- some items were copied to the front of dst, others are left, and the rest of dst is as it was
  pub record IsCopying (all : List (Option X)) (src old dst : List X) (kept : ℕ) (left : List ℕ) : Type 0 where
    pub whole : map Some (take kept dst) ++ map (slice_get src) left ≡ all
    pub within : All (λ p. p < length src) left
    pub after : drop kept dst ≡ drop kept old

  one_set : (all : List (Option X)) (src old dst : List X) (kept p : ℕ) (x : X) (rest : List ℕ) → kept < length dst → x ≡ get_or src p x → IsCopying all src old dst kept (p ∷ rest) → IsCopying all src old (set dst kept x) (kept + 1) rest
  one_set all src old dst kept p x rest room item h =
      let within : p < length src = h.within 0 0 (omega arith) in
      let here : Some x ≡ slice_get src p = ap Some item ∙ sym (slice_get-get_or src p x within) in
      record {
        whole =
            ap (λ l. map Some l ++ map (slice_get src) rest) (take_more_set dst kept x room)
            ∙ ap (λ l. l ++ map (slice_get src) rest) (map-append Some (take kept dst) (x ∷ []) ∙ ap (λ y. map Some (take kept dst) ++ y ∷ []) here)
            ∙ append_assoc (map Some (take kept dst)) (slice_get src p ∷ []) (map (slice_get src) rest)
            ∙ h.whole;
        within = All-tail (λ p. p < length src) p rest h.within;
        after = drop-set-lt (kept + 1) dst kept x (omega arith) ∙ same_further old dst kept (kept + 1) (omega arith) h.after;
      }

  -- the item at the first place was copied
  pub one_copied : (all : List (Option X)) (src old dst new : List X) (kept p : ℕ) (rest : List ℕ) → kept < length dst → ((d : X) → new ≡ set dst kept (get_or src p d)) → IsCopying all src old dst kept (p ∷ rest) → IsCopying all src old new (kept + 1) rest
  one_copied all [] old dst new kept p rest room e h = absurd (omega (arith, h.within 0 0 (omega arith)))
  one_copied all (y ∷ ys) old dst new kept p rest room e h =
      let src = y ∷ ys in
      let x = get_or src p y in
      let same : x ≡ get_or src p x = get_or_default src p y x (h.within 0 0 (omega arith)) in
      subst (λ (l : List X). IsCopying all src old l (kept + 1) rest) (sym (e y)) (one_set all src old dst kept p x rest room same h)

  pub copying_as : (all : List (Option X)) (src old dst : List X) (kept : ℕ) (left more : List ℕ) → left ≡ more → IsCopying all src old dst kept left → IsCopying all src old dst kept more
  copying_as all src old dst kept left more e h = subst (λ (l : List ℕ). IsCopying all src old dst kept l) e h

  pub word_copied : (all : List (Option X)) (src old dst new : List X) (kept base left p : ℕ) → 0 < left → left < 2 ^ 64 → p ≡ base + count_trailing_zeros 64 left → kept < length dst → ((d : X) → new ≡ set dst kept (get_or src p d)) → IsCopying all src old dst kept (positions base (word_bits left 64)) → IsCopying all src old new (kept + 1) (positions base (word_bits (bit_and left (left - 1)) 64))
  word_copied all src old dst new kept base left p some fits place room e h =
      let rest = positions base (word_bits (bit_and left (left - 1)) 64) in
      one_copied all src old dst new kept p rest room e (copying_as all src old dst kept _ (p ∷ rest) (lowest_position base left some fits ∙ ap (λ n. n ∷ rest) (sym place)) h)

  -- the next place lies within the items
  pub next_within : (all : List (Option X)) (src old dst : List X) (kept base left : ℕ) → 0 < left → left < 2 ^ 64 → IsCopying all src old dst kept (positions base (word_bits left 64)) → base + count_trailing_zeros 64 left < length src
  next_within all src old dst kept base left some fits h =
      (copying_as all src old dst kept _ _ (lowest_position base left some fits) h).within 0 0 (omega arith)

  pub word_all_copied : (all : List (Option X)) (src dst : List X) (kept base left : ℕ) → count_ones left ≡ 0 → map Some (take kept dst) ++ map (slice_get src) (positions base (word_bits left 64)) ≡ all → map Some (take kept dst) ≡ all
  word_all_copied all src dst kept base left none h =
      let no : positions base (word_bits left 64) ≡ [] = ap (λ n. positions base (word_bits n 64)) (zero_from_ones left none) ∙ no_positions base in
      sym (append-nil (map Some (take kept dst))) ∙ sym (ap (λ l. map Some (take kept dst) ++ map (slice_get src) l) no) ∙ h

  -- ---- whole words

  -- a full word lies within the items
  pub full_within : (src : List X) (base word : ℕ) → word ≡ 2 ^ 64 - 1 → All (λ p. p < length src) (positions base (word_bits word 64)) → base + 64 ≤ length src
  full_within src base word e h =
      let places = full_word_places base word e in
      let long = ap length places ∙ length-range_with_len base 64 in
      let last = h 63 0 (omega (arith, long)) in
      let is = ap (λ l. get_or l 63 0) places ∙ get_or-range_with_len base 64 63 0 (omega arith) in
      omega (arith, last, is)

  -- a full word was copied
  pub full_copied : (src dst : List X) (kept base word : ℕ) → word ≡ 2 ^ 64 - 1 → kept + 64 ≤ length dst → base + 64 ≤ length src → map Some (take (kept + 64) (put_mid kept 64 dst (take 64 (drop base src)))) ≡ map Some (take kept dst) ++ map (slice_get src) (positions base (word_bits word 64))
  full_copied src dst kept base word e fits within =
      let xs = take 64 (drop base src) in
      let long : length xs ≡ 64 = length-take-le 64 (drop base src) (omega (arith, length-drop base src)) in
      ap (map Some) (take-put_mid kept 64 dst xs (kept + 64) (ap (λ n. kept + n) (sym long)) (omega arith))
      ∙ map-append Some (take kept dst) xs
      ∙ ap (λ l. map Some (take kept dst) ++ l) (cut_picked src base 64 within ∙ ap (map (slice_get src)) (sym (full_word_places base word e)))

  pub full_rest : (src dst : List X) (kept base : ℕ) → kept + 64 ≤ length dst → base + 64 ≤ length src → drop (kept + 64) (put_mid kept 64 dst (take 64 (drop base src))) ≡ drop (kept + 64) dst
  full_rest src dst kept base fits within =
      drop-put_mid kept 64 dst (take 64 (drop base src)) (kept + 64) (omega arith) (omega arith) (length-take-le 64 (drop base src) (omega (arith, length-drop base src)))

  -- an empty word copies nothing
  pub empty_copied : (src dst : List X) (kept base word : ℕ) → word ≡ 0 → map Some (take kept dst) ≡ map Some (take kept dst) ++ map (slice_get src) (positions base (word_bits word 64))
  empty_copied src dst kept base word e =
      sym (append-nil (map Some (take kept dst))) ∙ ap (λ l. map Some (take kept dst) ++ map (slice_get src) l) (sym (ap (λ n. positions base (word_bits n 64)) e ∙ no_positions base))

-- ---- bits that reach past the items

module _ {X : Type 0} where
  -- what stands at the set positions is what the bits pick, where bits past the items are clear
  picked_by_words : (bits : List Bool) (src kept : List X) → length src ≤ length bits → AllBits bits (length src) (length bits) false → map Some kept ≡ map (slice_get src) (set_of bits) → kept ≡ items_where_true bits src
  picked_by_words bits src kept h clear e =
      let n = length src in
      let same = set_of_passed bits n (length bits) h (omega arith) clear in
      let cut : set_of bits ≡ set_of (take n bits) = ap set_of (sym (take_all (length bits) bits (omega arith))) ∙ same in
      picked_at_the_set (take n bits) src kept (length-take-le n bits h) (e ∙ ap (map (slice_get src)) cut) ∙ picked_front n bits src (omega arith)

-- ---- word after word

module _ {X : Type 0} where
  -- the items of the first words were copied, and the rest of dst is as it was
  pub record IsCompacted (src old now : List X) (words : List ℕ) (kept w : ℕ) : Type 0 where
    pub front : map Some (take kept now) ≡ map (slice_get src) (set_of (bits_of_words (take w words)))
    pub rest : drop kept now ≡ drop kept old
    pub count : kept ≡ true_count_of (bits_of_words (take w words))

  -- there is room for one more word's
  pub compacted_room : (src old now : List X) (words : List ℕ) (kept w : ℕ) → w < length words → get_or words w 0 < 2 ^ 64 → IsCompacted src old now words kept w → kept + count_ones (get_or words w 0) ≤ true_count_of (bits_of_words words)
  compacted_room src old now words kept w h fits v = omega (arith, count_more words w h fits, count_below words (w + 1), v.count)

  -- one more word was gone through
  pub compacted_more : (src old now new : List X) (words : List ℕ) (kept next w : ℕ) → w < length words → get_or words w 0 < 2 ^ 64 → next ≡ kept + count_ones (get_or words w 0) → map Some (take next new) ≡ map Some (take kept now) ++ map (slice_get src) (positions (64 * w) (word_bits (get_or words w 0) 64)) → drop next new ≡ drop next now → IsCompacted src old now words kept w → IsCompacted src old new words next (w + 1)
  compacted_more src old now new words kept next w h fits count step rest v =
      let places = positions (64 * w) (word_bits (get_or words w 0) 64) in
      record {
        front = step ∙ ap (λ l. l ++ map (slice_get src) places) v.front
            ∙ sym (map-append (slice_get src) (set_of (bits_of_words (take w words))) places)
            ∙ ap (map (slice_get src)) (sym (words_more words w h));
        rest = rest ∙ same_further old now kept next (omega (arith, count)) v.rest;
        count = omega (arith, count, v.count, count_more words w h fits);
      }

  -- all words were gone through
  pub compacted_all : (src old now : List X) (words : List ℕ) (kept w : ℕ) → length words ≤ w → length src ≤ 64 * length words → AllBits (bits_of_words words) (length src) (64 * length words) false → IsCompacted src old now words kept w → take kept now ≡ items_where_true (bits_of_words words) src
  compacted_all src old now words kept w all enough clear v =
      let long = length-bits_of_words words in
      picked_by_words (bits_of_words words) src (take kept now) (omega (arith, long)) (subst (λ (n : ℕ). AllBits (bits_of_words words) (length src) n false) (sym long) clear) (v.front ∙ ap (λ l. map (slice_get src) (set_of (bits_of_words l))) (take_all w words all))

module _ {X : Type 0} where
  -- ---- runs

  -- some runs were copied, others are left, and dst is as it was behind all of them
  pub record IsCopyingRuns (all : List (Option X)) (src old dst : List X) (kept end : ℕ) (left : List ℕ) : Type 0 where
    pub whole : map Some (take kept dst) ++ map (slice_get src) left ≡ all
    pub within : All (λ p. p < length src) left
    pub after : drop end dst ≡ drop end old

  -- the lowest run of a word lies within the items
  pub run_within : (all : List (Option X)) (src old dst : List X) (kept end base left low count rest : ℕ) → IsLowestRun left low count rest → IsCopyingRuns all src old dst kept end (positions base (word_bits left 64)) → base + low + count ≤ length src
  run_within all src old dst kept end base left low count rest run h =
      let places = run.places base in
      let range = range_with_len (base + low) count in
      let long = length-range_with_len (base + low) count in
      let some = run.some in
      let k = count - 1 in
      let last = h.within k 0 (omega (arith, ap length places, length-append range (positions base (word_bits rest 64)), long, some)) in
      let is = ap (λ l. get_or l k 0) places ∙ get_or_append_left range (positions base (word_bits rest 64)) 0 k (omega (arith, long, some)) ∙ get_or-range_with_len (base + low) count k 0 (omega (arith, some)) in
      omega (arith, last, is, some)

  -- the lowest run of a word was copied
  pub run_copied : (all : List (Option X)) (src old dst new : List X) (kept end base left low count rest : ℕ) → IsLowestRun left low count rest → take (kept + count) new ≡ take kept dst ++ take count (drop (base + low) src) → drop end new ≡ drop end dst → IsCopyingRuns all src old dst kept end (positions base (word_bits left 64)) → IsCopyingRuns all src old new (kept + count) end (positions base (word_bits rest 64))
  run_copied all src old dst new kept end base left low count rest run front after h =
      let within = run_within all src old dst kept end base left low count rest run h in
      let range = range_with_len (base + low) count in
      let places = positions base (word_bits rest 64) in
      let m = subst (λ (l : List ℕ). IsCopyingRuns all src old dst kept end l) (run.places base) h in
      record {
        whole =
            ap (λ l. map Some l ++ map (slice_get src) places) front
            ∙ ap (λ l. l ++ map (slice_get src) places) (map-append Some (take kept dst) (take count (drop (base + low) src)) ∙ ap (λ l. map Some (take kept dst) ++ l) (cut_picked src (base + low) count within))
            ∙ append_assoc (map Some (take kept dst)) (map (slice_get src) range) (map (slice_get src) places)
            ∙ ap (λ l. map Some (take kept dst) ++ l) (sym (map-append (slice_get src) range places))
            ∙ m.whole;
        within = All-right (λ p. p < length src) range places m.within;
        after = after ∙ h.after;
      }
