-- What a filter leaves of lists.
use Rattle.std.proofs.Common.{◌≡◌, ℕ, suc, ◌+◌, ◌-◌, ◌<◌, ◌≤◌, Bool, true, false, cond, List, [], ◌∷◌, length, get_or, map, take, drop, refl, sym, ap, ap₂, subst, ◌∙◌, arith}
use Rattle.std.specs.List.{All, flat_map, items_where_true, range_with_len, slice_get, slice_range, sum_by}
use Rattle.std.proofs.lemmas.List.{length-drop, length-take-le}
use Rattle.std.proofs.lemmas.List.Elements.{All-cons, All-nil, All-tail}
use Rattle.std.proofs.lemmas.List.Folds.{flat_map-map}
use Rattle.std.proofs.lemmas.Simd.{map-map}
use Rattle.std.proofs.lemmas.List.Sums.{sum_by-cons, sum_by-take-drop, sum_by_more}
use Rattle.std.proofs.lemmas.Option.{slice_get_within}
use Rattle.vx_bits.specs.BitBuffer.{IsLastSet, true_count_of}
use Rattle.vx_mask.specs.Positions.{ascending, rank_of, run_positions, set_of}
use Rattle.vx_mask.proofs.AscendingLists.{ascending_first, index_parts}
use Rattle.vx_mask.proofs.PositionLists.{get_or_of_slice_get, length-positions, position_at}
use Rattle.vx_mask.proofs.RankedItems.{items_at_the_set}
use Rattle.vx_offsets.specs.Offsets.{items_in, lists_at}
use Rattle.vx_lists.specs.Lists.{AreElementBits, AreOffsets, IsWithin, last_offset, row_count, span_at}
use Rattle.vx_lists.specs.Sums.{concat_lists, length_at, offsets_of, sums_from}
use Rattle.vx_lists.specs.Filters.{FiltersLists, IsElementRange, selected_range, whole_range}
use Rattle.vx_lists.proofs.Joined.{cut_again, length_row, row_of}
use Rattle.vx_filter.proofs.Picks.{ascending_below, runs_picked, set_ascends}
use Rattle.vx_lists.proofs.Spans.{offsets_ordered, picked_in_row, spans_at_the_set, spans_of_rows}
use Rattle.vx_lemmas.proofs.Picked.{part_read, same_items}

-- ---- the items that stay

spans_ordered : (offsets rows : List ℕ) → AreOffsets offsets → All (λ i. i < row_count offsets) rows → All (λ span. span.0 ≤ span.1) (map (span_at offsets) rows)
spans_ordered offsets [] are h = All-nil (λ (span : ℕ × ℕ). span.0 ≤ span.1)
spans_ordered offsets (i ∷ rows) are h =
    let row = row_of offsets i are (h 0 0 (omega arith)) in
    All-cons (λ (span : ℕ × ℕ). span.0 ≤ span.1) (span_at offsets i) (map (span_at offsets) rows) row.ordered (spans_ordered offsets rows are (All-tail (λ k. k < row_count offsets) i rows h))

spans_inside : (offsets rows : List ℕ) (n : ℕ) → AreOffsets offsets → All (λ i. i < row_count offsets) rows → last_offset offsets ≤ n → All (λ span. span.1 ≤ n) (map (span_at offsets) rows)
spans_inside offsets [] n are h long = All-nil (λ (span : ℕ × ℕ). span.1 ≤ n)
spans_inside offsets (i ∷ rows) n are h long =
    let row = row_of offsets i are (h 0 0 (omega arith)) in
    let within = row.within in
    All-cons (λ (span : ℕ × ℕ). span.1 ≤ n) (span_at offsets i) (map (span_at offsets) rows) (omega arith) (spans_inside offsets rows n are (All-tail (λ k. k < row_count offsets) i rows h) long)

module _ {X : Type 0} where
  gets_cut : (items : List X) (a m : ℕ) (ps : List ℕ) → All (λ p. p < m) ps → map (slice_get (take m (drop a items))) ps ≡ map (slice_get items) (map (λ p. a + p) ps)
  gets_cut items a m [] h = refl
  gets_cut items a m (p ∷ ps) h = ap₂ ◌∷◌ (part_read items a m p (h 0 0 (omega arith))) (gets_cut items a m ps (All-tail (λ q. q < m) p ps h))

  -- the lists of rows
  abbrev pub row_lists : List ℕ → List X → List ℕ → List (List X)
  row_lists offsets items rows = map (items_in items) (map (span_at offsets) rows)

  pub lengths_of_rows : (offsets : List ℕ) (items : List X) (rows : List ℕ) → AreOffsets offsets → All (λ i. i < row_count offsets) rows → last_offset offsets ≤ length items → map length (row_lists offsets items rows) ≡ map (length_at offsets) rows
  lengths_of_rows offsets items [] are h long = refl
  lengths_of_rows offsets items (i ∷ rows) are h long = ap₂ ◌∷◌ (length_row offsets items i (row_of offsets i are (h 0 0 (omega arith))) long) (lengths_of_rows offsets items rows are (All-tail (λ k. k < row_count offsets) i rows h) long)

  -- the selected lists are those of the set positions
  pub lists_at_the_set : (offsets : List ℕ) (items : List X) (selection : List Bool) → length offsets ≡ length selection + 1 → items_where_true selection (lists_at offsets items) ≡ row_lists offsets items (set_of selection)
  lists_at_the_set offsets items selection h =
      let rows : row_count offsets ≡ length selection = omega arith in
      let list_of : ℕ → List X = λ i. items_in items (span_at offsets i) in
      ap (items_where_true selection) (ap (map (items_in items)) (spans_of_rows offsets) ∙ map-map (items_in items) (span_at offsets) (range_with_len 0 (row_count offsets)) ∙ ap (λ n. map list_of (range_with_len 0 n)) rows)
      ∙ picked_in_row list_of 0 selection
      ∙ sym (map-map (items_in items) (span_at offsets) (set_of selection))

  -- the items of the range that stay are the selected lists, joined
  pub kept_items : (offsets : List ℕ) (selection : List Bool) (range : ℕ × ℕ) (bits : List Bool) (items : List X) → AreOffsets offsets → length offsets ≡ length selection + 1 → range.0 ≤ range.1 → range.1 ≤ last_offset offsets → last_offset offsets ≤ length items → AreElementBits offsets selection range bits → items_where_true bits (slice_range items range.0 range.1) ≡ concat_lists (row_lists offsets items (set_of selection))
  kept_items offsets selection range bits items are h ordered within long v =
      let m = range.1 - range.0 in
      let cut = slice_range items range.0 range.1 in
      let rest = length-drop range.0 items in
      let size : length cut ≡ m = length-take-le m (drop range.0 items) (omega (arith, rest)) in
      let rows = set_of selection in
      let runs = map (span_at offsets) rows in
      let below : All (λ i. i < row_count offsets) rows = ascending_below 0 (row_count offsets) rows (set_ascends selection (row_count offsets) (omega arith)) in
      let places : All (λ p. p < m) (set_of bits) = ascending_below 0 m (set_of bits) (set_ascends bits m v.len) in
      same_items (items_where_true bits cut) (flat_map (λ (run : ℕ × ℕ). slice_range items run.0 run.1) runs)
      (items_at_the_set bits cut (v.len ∙ sym size)
      ∙ gets_cut items range.0 m (set_of bits) places
      ∙ ap (map (slice_get items)) (v.set ∙ ap run_positions (spans_at_the_set offsets selection h))
      ∙ sym (runs_picked items runs (spans_ordered offsets rows are below) (spans_inside offsets rows (length items) are below long)))
      ∙ sym (flat_map-map (λ (l : List X). l) (items_in items) runs)

  pub filters_lists : (offsets : List ℕ) (selection : List Bool) (range : ℕ × ℕ) (bits : List Bool) (new_offsets : List ℕ) (items : List X) → AreOffsets offsets → length offsets ≡ length selection + 1 → IsElementRange offsets selection range → AreElementBits offsets selection range bits → new_offsets ≡ offsets_of (map (length_at offsets) (set_of selection)) → last_offset offsets ≤ length items → lists_at new_offsets (items_where_true bits (slice_range items range.0 range.1)) ≡ items_where_true selection (lists_at offsets items)
  filters_lists offsets selection range bits new_offsets items are h in_range v e long =
      let rows = set_of selection in
      let below : All (λ i. i < row_count offsets) rows = ascending_below 0 (row_count offsets) rows (set_ascends selection (row_count offsets) (omega arith)) in
      ap₂ lists_at (e ∙ ap offsets_of (sym (lengths_of_rows offsets items rows are below long))) (kept_items offsets selection range bits items are h in_range.ordered in_range.within long v)
      ∙ cut_again (row_lists offsets items rows)
      ∙ sym (lists_at_the_set offsets items selection h)

-- ---- the range

-- rows that ascend come from the first one on
rows_from : (low n : ℕ) (rows : List ℕ) → ascending low n rows ≡ true → All (λ i. low ≤ i) rows
rows_from low n [] h = All-nil (λ i. low ≤ i)
rows_from low n (i ∷ rows) h =
    let parts = index_parts low n i rows h in
    let from = parts.from in
    let rest = rows_from (i + 1) n rows parts.then in
    All-cons (λ k. low ≤ k) i rows from (λ k d p. let more : i + 1 ≤ get_or rows k d = rest k d p in omega arith)

rows_from_first : (low n : ℕ) (rows : List ℕ) → ascending low n rows ≡ true → All (λ i. get_or rows 0 0 ≤ i) rows
rows_from_first low n [] h = All-nil (λ i. 0 ≤ i)
rows_from_first low n (i ∷ rows) h =
    let parts = index_parts low n i rows h in
    rows_from i n (i ∷ rows) (ascending_first i n i rows (omega arith) parts.within parts.then)

-- and none is behind the last one
rows_to_last : (low n : ℕ) (rows : List ℕ) → ascending low n rows ≡ true → All (λ i. i ≤ get_or rows (length rows - 1) 0) rows
rows_to_last low n [] h = λ k d p. absurd (omega arith)
rows_to_last low n (i ∷ []) h = All-cons (λ k. k ≤ i) i [] (omega arith) (All-nil (λ k. k ≤ i))
rows_to_last low n (i ∷ j ∷ rows) h =
    let parts = index_parts low n i (j ∷ rows) h in
    let next = index_parts (i + 1) n j rows parts.then in
    let more : length (j ∷ rows) ≡ suc (length (j ∷ rows) - 1) = omega arith in
    let last = get_or (i ∷ j ∷ rows) (length (i ∷ j ∷ rows) - 1) 0 in
    let place : length (i ∷ j ∷ rows) - 1 ≡ suc (length (j ∷ rows) - 1) = omega arith in
    let same : last ≡ get_or (j ∷ rows) (length (j ∷ rows) - 1) 0 = ap (λ k. get_or (i ∷ j ∷ rows) k 0) place in
    let rest = rows_to_last (i + 1) n (j ∷ rows) parts.then in
    let first : j ≤ get_or (j ∷ rows) (length (j ∷ rows) - 1) 0 = rest 0 0 (omega arith) in
    let from = next.from in
    All-cons (λ k. k ≤ last) i (j ∷ rows) (omega arith) (λ k d p. let below : get_or (j ∷ rows) k d ≤ get_or (j ∷ rows) (length (j ∷ rows) - 1) 0 = rest k d p in omega arith)

-- what a range from row `first` up to row `last` covers
rows_within : (offsets rows : List ℕ) (first last : ℕ) → AreOffsets offsets → last < row_count offsets → All (λ i. first ≤ i) rows → All (λ i. i ≤ last) rows → All (IsWithin (get_or offsets first 0, get_or offsets (last + 1) 0)) (map (span_at offsets) rows)
rows_within offsets [] first last are h from to = All-nil (IsWithin (get_or offsets first 0, get_or offsets (last + 1) 0))
rows_within offsets (i ∷ rows) first last are h from to =
    let low : first ≤ i = from 0 0 (omega arith) in
    let high : i ≤ last = to 0 0 (omega arith) in
    All-cons (IsWithin (get_or offsets first 0, get_or offsets (last + 1) 0)) (span_at offsets i) (map (span_at offsets) rows)
    (λ some. (offsets_ordered offsets first i are low (omega arith), offsets_ordered offsets (i + 1) (last + 1) are (omega arith) (omega arith)))
    (rows_within offsets rows first last are h (All-tail (λ k. first ≤ k) i rows from) (All-tail (λ k. k ≤ last) i rows to))

-- where the selected lists lie, and that this lies in the whole
pub record AreRanges (offsets : List ℕ) (selection : List Bool) : Type 0 where
  pub part : IsElementRange offsets selection (selected_range offsets selection)
  pub whole : IsElementRange offsets selection (whole_range offsets)
  pub from : (whole_range offsets).0 ≤ (selected_range offsets selection).0

pub are_ranges : (offsets : List ℕ) (selection : List Bool) → AreOffsets offsets → length offsets ≡ length selection + 1 → 0 < true_count_of selection → AreRanges offsets selection
are_ranges offsets selection are h some =
    let rows = set_of selection in
    let n = row_count offsets in
    let count = length-positions 0 selection in
    let first = rank_of selection 0 in
    let last = rank_of selection (true_count_of selection - 1) in
    let ascends = set_ascends selection n (omega arith) in
    let below = ascending_below 0 n rows ascends in
    let from : All (λ i. first ≤ i) rows = rows_from_first 0 n rows ascends in
    let to : All (λ i. i ≤ last) rows = subst (λ (c : ℕ). All (λ i. i ≤ get_or rows (c - 1) 0) rows) count (rows_to_last 0 n rows ascends) in
    let last_below : last < n = below (true_count_of selection - 1) 0 (omega (arith, count)) in
    let order : first ≤ last = to 0 0 (omega (arith, count)) in
    let set = spans_at_the_set offsets selection h in
    let low = offsets_ordered offsets 0 first are (omega arith) (omega arith) in
    let mid = offsets_ordered offsets first (last + 1) are (omega arith) (omega arith) in
    let high = offsets_ordered offsets (last + 1) n are (omega arith) (omega arith) in
    record {
      part = record {
        ordered = mid;
        within = high;
        covers = subst (λ (l : List (ℕ × ℕ)). All (IsWithin (selected_range offsets selection)) l) (sym set) (rows_within offsets rows first last are last_below from to);
      };
      whole = record {
        ordered = offsets_ordered offsets 0 n are (omega arith) (omega arith);
        within = omega arith;
        covers = subst (λ (l : List (ℕ × ℕ)). All (IsWithin (whole_range offsets)) l) (sym set)
            (λ k d p q. let w = rows_within offsets rows first last are last_below from to k d p q in (omega (arith, low, w.0), omega (arith, high, w.1)));
      };
      from = low;
    }

-- where the selected lists lie, and that this lies in the whole, by the places of the first and the
-- last selected row
pub record AreRangesAt (offsets : List ℕ) (selection : List Bool) (first last len : ℕ) : Type 0 where
  pub part : IsElementRange offsets selection (get_or offsets first 0, get_or offsets (last + 1) 0)
  pub whole : IsElementRange offsets selection (get_or offsets 0 0, get_or offsets len 0)
  pub from : get_or offsets 0 0 ≤ get_or offsets first 0
  pub to : get_or offsets (last + 1) 0 ≤ get_or offsets len 0

pub ranges_at : (offsets : List ℕ) (selection : List Bool) (first last len count : ℕ) → AreOffsets offsets → length offsets ≡ length selection + 1 → count ≡ true_count_of selection → 0 < count → first ≡ rank_of selection 0 → last ≡ rank_of selection (true_count_of selection - 1) → len ≡ length selection → AreRangesAt offsets selection first last len
ranges_at offsets selection first last len count are h n some e f g =
    let some_set : 0 < true_count_of selection = omega arith in
    let ranges = are_ranges offsets selection are h some_set in
    let rows : row_count offsets ≡ len = omega arith in
    let base : AreRangesAt offsets selection (rank_of selection 0) (rank_of selection (true_count_of selection - 1)) (row_count offsets) = record {
      part = ranges.part;
      whole = ranges.whole;
      from = ranges.from;
      to = ranges.part.within;
    } in
    subst (λ (k : ℕ). AreRangesAt offsets selection first last k) rows
    (subst (λ (k : ℕ). AreRangesAt offsets selection first k (row_count offsets)) (sym f)
    (subst (λ (k : ℕ). AreRangesAt offsets selection k (rank_of selection (true_count_of selection - 1)) (row_count offsets)) (sym e) base))

-- what a filter puts out
pub filter_told : (offsets : List ℕ) (selection seen : List Bool) (range : ℕ × ℕ) (bits kept : List Bool) (new_offsets : List ℕ) → AreOffsets offsets → length offsets ≡ length selection + 1 → seen ≡ selection → kept ≡ bits → IsElementRange offsets selection range → AreElementBits offsets seen range bits → new_offsets ≡ offsets_of (map (length_at offsets) (set_of seen)) → FiltersLists offsets selection new_offsets range kept
filter_told offsets selection seen range bits kept new_offsets are h e f in_range v sums items long =
    let w : AreElementBits offsets selection range bits = subst (λ (s : List Bool). AreElementBits offsets s range bits) e v in
    let told : new_offsets ≡ offsets_of (map (length_at offsets) (set_of selection)) = sums ∙ ap (λ s. offsets_of (map (length_at offsets) (set_of s))) e in
    ap (λ l. lists_at new_offsets (items_where_true l (slice_range items range.0 range.1))) f
    ∙ filters_lists offsets selection range bits new_offsets items are h in_range w told long

-- the last set position is that of the last rank
pub last_is_rank : (bits : List Bool) (i : ℕ) → IsLastSet bits i → i ≡ rank_of bits (true_count_of bits - 1)
last_is_rank bits i v =
    let within = slice_get_within bits i true v.set in
    let set = get_or_of_slice_get bits i v.set in
    let before = true_count_of (take i bits) in
    let one_if : Bool → ℕ = λ b. cond b 1 0 in
    let one : one_if (get_or bits i false) ≡ 1 = ap one_if set in
    let more = sum_by_more one_if bits i false within in
    let all = sum_by-take-drop one_if bits (i + 1) in
    let none = v.last in
    let count : before ≡ true_count_of bits - 1 = omega (arith, more, all, none, one) in
    let place : rank_of bits before ≡ 0 + i = position_at 0 bits i 0 within set in
    omega (arith, place, ap (rank_of bits) count)

pub last_is_within : (bits : List Bool) (i : ℕ) → IsLastSet bits i → i < length bits
last_is_within bits i v = slice_get_within bits i true v.set

-- ---- how far the sums go

rows_sum : (offsets : List ℕ) (low : ℕ) (rows : List ℕ) → AreOffsets offsets → low < length offsets → ascending low (row_count offsets) rows ≡ true → get_or offsets low 0 + sum_by (length_at offsets) rows ≤ last_offset offsets
rows_sum offsets low [] are h up = let order = offsets_ordered offsets low (row_count offsets) are (omega arith) (omega (arith, are.some)) in omega (arith, order)
rows_sum offsets low (i ∷ rows) are h up =
    let parts = index_parts low (row_count offsets) i rows up in
    let from = parts.from in
    let within = parts.within in
    let rest = rows_sum offsets (i + 1) rows are (omega arith) parts.then in
    let ordered = are.ascend i 0 (omega arith) in
    let before = offsets_ordered offsets low i are from (omega arith) in
    omega (arith, rest, ordered, before, sum_by-cons (length_at offsets) i rows)

sums_within : (f : ℕ → ℕ) (start top : ℕ) (rows : List ℕ) → start + sum_by f rows ≤ top → All (λ n. n ≤ top) (start ∷ sums_from start (map f rows))
sums_within f start top [] h = All-cons (λ n. n ≤ top) start [] (omega arith) (All-nil (λ n. n ≤ top))
sums_within f start top (x ∷ rows) h =
    All-cons (λ n. n ≤ top) start (sums_from start (map f (x ∷ rows))) (omega arith)
    (sums_within f (start + f x) top rows (omega (arith, h, sum_by-cons f x rows)))

-- no new offset is past the last old one
pub filter_bounded : (offsets : List ℕ) (selection seen : List Bool) (new_offsets : List ℕ) → AreOffsets offsets → length offsets ≡ length selection + 1 → seen ≡ selection → new_offsets ≡ offsets_of (map (length_at offsets) (set_of seen)) → All (λ n. n ≤ last_offset offsets) new_offsets
filter_bounded offsets selection seen new_offsets are h e sums =
    let rows = set_of selection in
    let some = are.some in
    let sum = rows_sum offsets 0 rows are (omega arith) (set_ascends selection (row_count offsets) (omega arith)) in
    subst (λ (l : List ℕ). All (λ n. n ≤ last_offset offsets) l) (sym (sums ∙ ap (λ s. offsets_of (map (length_at offsets) (set_of s))) e))
    (sums_within (length_at offsets) 0 (last_offset offsets) rows (omega (arith, sum)))
