-- Bits that are turned on at the positions of a list, in order, where other bits say so.
use Rattle.std.proofs.Common.{◌≡◌, ◌≢◌, ℕ, ◌+◌, ◌-◌, ◌*◌, ◌^◌, ◌<◌, ◌≤◌, Bool, true, false, cond, List, [], ◌∷◌, ◌++◌, length, get_or, take, drop, set, replicate, refl, sym, ap, ap₂, ◌∙◌, subst, inl, inr, arith, append_assoc}
use Rattle.std.specs.Int.RustNames.{count_ones}
use Rattle.std.specs.List.{items_where_true}
use Rattle.std.proofs.lemmas.List.{length-set, length-take, length-take-le, length-drop, get_or-set_same, get_or-set_other, take_all, take-set, take-append-drop, drop-drop, drop_more, drop_all, append-nil}
use Rattle.std.proofs.lemmas.Bool.{cases_lt}
use lib.Bits.{bit_and}
use lib.Count.{count_trailing_zeros}
use Rattle.vx_bits.specs.Words.{word_at, word_bits}
use Rattle.vx_bits.proofs.WordBits.{true_count_of-word_bits}
use Rattle.vx_mask.specs.Positions.{AllBits, ascending, positions, set_of}
use Rattle.vx_mask.proofs.PositionLists.{positions-append, length-positions, positions_false}
use Rattle.vx_mask.proofs.AscendingLists.{index_parts, ascending_first}
use Rattle.vx_mask.proofs.RunLists.{set_of_passed, set_of_bit}
use Rattle.vx_mask.proofs.LowestBit.{lowest_position, no_positions}
use Rattle.vx_mask.proofs.WordPositions.{positions_in}
use Rattle.vx_lemmas.proofs.Picked.{picked_nothing}

-- bits that are clear from some place on, and positions that ascend from there
pub record IsOpen (kept : List Bool) (len top : ℕ) (rest : List ℕ) : Type 0 where
  pub low : ℕ
  pub below : low ≤ top
  pub clear : AllBits kept low len false
  pub ascend : ascending low len rest ≡ true

-- a bit that is turned on behind all set ones
set_of_turned : (kept : List Bool) (low len p : ℕ) → length kept ≡ len → AllBits kept low len false → low ≤ p → p < len → set_of (set kept p true) ≡ set_of kept ++ p ∷ []
set_of_turned kept low len p long clear from within =
    let new = set kept p true in
    let new_long : length new ≡ len = length-set kept p true ∙ long in
    let here : get_or new p false ≡ true = get_or-set_same kept p true false (omega arith) in
    let behind = set_of_passed new (p + 1) len (omega arith) (omega arith) (λ j u v. let other : j ≢ p = omega arith in get_or-set_other kept p j true false other ∙ clear j (omega arith) v) in
    let before = set_of_passed kept low p from (omega arith) (λ j u v. clear j u (omega arith)) in
    let rest = set_of_passed kept low len (omega arith) (omega arith) clear in
    ap set_of (sym (take_all len new (omega arith))) ∙ behind ∙ set_of_bit new p (omega arith) here
    ∙ ap (λ l. l ++ p ∷ []) (ap set_of (take-set kept p true) ∙ before ∙ sym rest ∙ ap set_of (take_all len kept (omega arith)))

-- what one more position does
pub record IsMarked (kept new : List Bool) (len top p : ℕ) (b : Bool) (bs : List Bool) (rest : List ℕ) : Type 0 where
  pub set : set_of new ++ items_where_true bs rest ≡ set_of kept ++ items_where_true (b ∷ bs) (p ∷ rest)
  pub long : length new ≡ len
  pub still : IsOpen new len top rest

pub marked : (kept new : List Bool) (len top p : ℕ) (b : Bool) (bs : List Bool) (rest : List ℕ) → length kept ≡ len → p < top → IsOpen kept len top (p ∷ rest) → new ≡ cond b (set kept p true) kept → IsMarked kept new len top p b bs rest
marked kept new len top p true bs rest long below h e =
    let parts = index_parts h.low len p rest h.ascend in
    let from = parts.from in
    let within = parts.within in
    record {
      set = ap (λ l. l ++ items_where_true bs rest) (ap set_of e ∙ set_of_turned kept h.low len p long h.clear from within) ∙ append_assoc (set_of kept) (p ∷ []) (items_where_true bs rest);
      long = ap length e ∙ length-set kept p true ∙ long;
      still = record {
        low = p + 1;
        below = omega arith;
        clear = λ j u v. let other : j ≢ p = omega arith in ap (λ l. get_or l j false) e ∙ get_or-set_other kept p j true false other ∙ h.clear j (omega arith) v;
        ascend = parts.then;
      };
    }
marked kept new len top p false bs rest long below h e =
    let parts = index_parts h.low len p rest h.ascend in
    let from = parts.from in
    record {
      set = ap (λ l. set_of l ++ items_where_true bs rest) e;
      long = ap length e ∙ long;
      still = record {
        low = p + 1;
        below = omega arith;
        clear = λ j u v. ap (λ l. get_or l j false) e ∙ h.clear j (omega arith) v;
        ascend = parts.then;
      };
    }

-- one set bit of a word
pub bit_marked : (kept new by : List Bool) (len base left rank p : ℕ) → 0 < left → left < 2 ^ 64 → rank < length by → p ≡ base + count_trailing_zeros 64 left → p < base + 64 → length kept ≡ len → IsOpen kept len (base + 64) (positions base (word_bits left 64)) → new ≡ cond (get_or by rank false) (set kept p true) kept → IsMarked kept new len (base + 64) p (get_or by rank false) (drop (rank + 1) by) (positions base (word_bits (bit_and left (left - 1)) 64))
bit_marked kept new by len base left rank p some fits enough place below long open_bits e =
    let rest = positions base (word_bits (bit_and left (left - 1)) 64) in
    let first = lowest_position base left some fits ∙ ap (λ n. n ∷ rest) (sym place) in
    marked kept new len (base + 64) p (get_or by rank false) (drop (rank + 1) by) rest long below (subst (λ (l : List ℕ). IsOpen kept len (base + 64) l) first open_bits) e

pub next_mark : (kept new by : List Bool) (len base left rank p : ℕ) (all : List ℕ) → 0 < left → left < 2 ^ 64 → rank < length by → p ≡ base + count_trailing_zeros 64 left → IsMarked kept new len (base + 64) p (get_or by rank false) (drop (rank + 1) by) (positions base (word_bits (bit_and left (left - 1)) 64)) → set_of kept ++ items_where_true (drop rank by) (positions base (word_bits left 64)) ≡ all → set_of new ++ items_where_true (drop (rank + 1) by) (positions base (word_bits (bit_and left (left - 1)) 64)) ≡ all
next_mark kept new by len base left rank p all some fits enough place h e =
    let rest = positions base (word_bits (bit_and left (left - 1)) 64) in
    let first = lowest_position base left some fits ∙ ap (λ n. n ∷ rest) (sym place) in
    h.set ∙ sym (ap₂ (λ bs ps. set_of kept ++ items_where_true bs ps) (drop_more by rank false enough) first) ∙ e

-- the lowest set bit of a word lies within the list
pub place_within : (kept : List Bool) (len base left p : ℕ) → 0 < left → left < 2 ^ 64 → p ≡ base + count_trailing_zeros 64 left → IsOpen kept len (base + 64) (positions base (word_bits left 64)) → p < len
place_within kept len base left p some fits place h =
    let rest = positions base (word_bits (bit_and left (left - 1)) 64) in
    let first = lowest_position base left some fits ∙ ap (λ n. n ∷ rest) (sym place) in
    let parts = index_parts h.low len p rest (sym (ap (ascending h.low len) first) ∙ h.ascend) in
    parts.within

-- no set bit is left
pub word_marked : (kept by : List Bool) (base left rank : ℕ) (all : List ℕ) → left ≡ 0 → set_of kept ++ items_where_true (drop rank by) (positions base (word_bits left 64)) ≡ all → set_of kept ≡ all
word_marked kept by base left rank all none e =
    let empty : positions base (word_bits left 64) ≡ [] = ap (λ n. positions base (word_bits n 64)) none ∙ no_positions base in
    sym (append-nil (set_of kept)) ∙ sym (ap (λ l. set_of kept ++ l) (ap (items_where_true (drop rank by)) empty ∙ picked_nothing (drop rank by))) ∙ e

-- ---- all words

where-append : {X : Type 0} (bs : List Bool) (xs ys : List X) → items_where_true bs (xs ++ ys) ≡ items_where_true bs xs ++ items_where_true (drop (length xs) bs) ys
where-append bs [] ys = ap (λ l. l ++ items_where_true bs ys) (sym (picked_nothing bs))
where-append [] (x ∷ xs) ys = refl
where-append (true ∷ bs) (x ∷ xs) ys = ap (λ l. x ∷ l) (where-append bs xs ys)
where-append (false ∷ bs) (x ∷ xs) ys = where-append bs xs ys

ascending_lower : (low from len : ℕ) (xs : List ℕ) → low ≤ from → ascending from len xs ≡ true → ascending low len xs ≡ true
ascending_lower low from len [] p h = refl
ascending_lower low from len (x ∷ xs) p h =
    let parts = index_parts from len x xs h in
    let at = parts.from in
    ascending_first low len x xs (omega arith) parts.within parts.then

pub ascending-positions : (at len : ℕ) (bits : List Bool) → at + length bits ≤ len → ascending at len (positions at bits) ≡ true
ascending-positions at len [] h = refl
ascending-positions at len (true ∷ bits) h = ascending_first at len at (positions (at + 1) bits) (omega arith) (omega arith) (ascending-positions (at + 1) len bits (omega arith))
ascending-positions at len (false ∷ bits) h = ascending_lower at (at + 1) len (positions (at + 1) bits) (omega arith) (ascending-positions (at + 1) len bits (omega arith))

-- the positions of a word's bits are within the list
pub word_within_bits : (bits : List Bool) (w word len : ℕ) → 64 * w ≤ length bits → length bits ≡ len → word ≡ word_at bits w → ascending (64 * w) len (positions (64 * w) (word_bits word 64)) ≡ true
word_within_bits bits w word len h long e =
    let part = take 64 (drop (64 * w) bits) in
    let fits : 64 * w + length part ≤ len = omega (arith, length-take 64 (drop (64 * w) bits), length-drop (64 * w) bits) in
    ap (ascending (64 * w) len) (positions_in bits w word (64 * w) e) ∙ ascending-positions (64 * w) len part fits

-- the positions from a word on are the word's and those behind it
positions_from_word : (bits : List Bool) (w : ℕ) → 64 * w ≤ length bits → positions (64 * w) (drop (64 * w) bits) ≡ positions (64 * w) (take 64 (drop (64 * w) bits)) ++ positions (64 * (w + 1)) (drop (64 * (w + 1)) bits)
positions_from_word bits w h =
    let rest = drop (64 * w) bits in
    let part = take 64 rest in
    let next : 64 * w + 64 ≡ 64 * (w + 1) = omega arith in
    let behind : drop 64 rest ≡ drop (64 * (w + 1)) bits = drop-drop 64 (64 * w) bits ∙ ap (λ n. drop n bits) next in
    let split = ap (positions (64 * w)) (sym (take-append-drop 64 rest)) ∙ positions-append (64 * w) part (drop 64 rest) ∙ ap (λ l. positions (64 * w) part ++ positions (64 * w + length part) l) behind in
    elim (cases_lt (length rest) 64) [
      | inl short ↦
          let none : drop (64 * (w + 1)) bits ≡ [] = sym behind ∙ drop_all 64 rest (omega arith) in
          split ∙ ap (λ l. positions (64 * w) part ++ positions (64 * w + length part) l) none ∙ sym (ap (λ l. positions (64 * w) part ++ positions (64 * (w + 1)) l) none)
      | inr whole ↦
          let long : 64 * w + length part ≡ 64 * (w + 1) = omega (arith, length-take-le 64 rest whole) in
          split ∙ ap (λ n. positions (64 * w) part ++ positions n (drop (64 * (w + 1)) bits)) long
    ]

-- one more word was marked
pub one_word : (bits by kept new : List Bool) (w word from : ℕ) (all : List ℕ) → 64 * w ≤ length bits → word ≡ word_at bits w → word < 2 ^ 64 → set_of kept ++ items_where_true (drop from by) (positions (64 * w) (drop (64 * w) bits)) ≡ all → set_of new ≡ set_of kept ++ items_where_true (drop from by) (positions (64 * w) (word_bits word 64)) → set_of new ++ items_where_true (drop (from + count_ones word) by) (positions (64 * (w + 1)) (drop (64 * (w + 1)) bits)) ≡ all
one_word bits by kept new w word from all h e fits found now =
    let here = positions (64 * w) (take 64 (drop (64 * w) bits)) in
    let more = positions (64 * (w + 1)) (drop (64 * (w + 1)) bits) in
    let own = positions_in bits w word (64 * w) e in
    let count : from + length here ≡ from + count_ones word = omega (arith, ap length own, length-positions (64 * w) (word_bits word 64), true_count_of-word_bits word 64 fits) in
    let behind : drop (from + count_ones word) by ≡ drop (length here) (drop from by) = ap (λ n. drop n by) (sym count) ∙ sym (drop-drop (length here) from by) in
    ap₂ (λ l bs. l ++ items_where_true bs more) (now ∙ ap (λ ps. set_of kept ++ items_where_true (drop from by) ps) own) behind
    ∙ append_assoc (set_of kept) (items_where_true (drop from by) here) (items_where_true (drop (length here) (drop from by)) more)
    ∙ ap (λ l. set_of kept ++ l) (sym (where-append (drop from by) here more) ∙ ap (items_where_true (drop from by)) (sym (positions_from_word bits w h)))
    ∙ found

-- all words were marked
pub all_words : (bits by kept : List Bool) (w from : ℕ) (all : List ℕ) → length bits ≤ 64 * w → set_of kept ++ items_where_true (drop from by) (positions (64 * w) (drop (64 * w) bits)) ≡ all → set_of kept ≡ all
all_words bits by kept w from all h e =
    let empty : positions (64 * w) (drop (64 * w) bits) ≡ [] = ap (positions (64 * w)) (drop_all (64 * w) bits h) in
    sym (append-nil (set_of kept)) ∙ sym (ap (λ l. set_of kept ++ l) (ap (items_where_true (drop from by)) empty ∙ picked_nothing (drop from by))) ∙ e

-- no bit is on yet
pub no_mark : (len : ℕ) (kept : List Bool) (all : List ℕ) → kept ≡ replicate len false → set_of kept ++ all ≡ all
no_mark len kept all e = ap (λ l. set_of l ++ all) e ∙ ap (λ l. l ++ all) (positions_false 0 len)
