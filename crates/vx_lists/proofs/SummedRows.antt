-- The running sums of the lengths of lists that ascend.
use Rattle.std.proofs.Common.{◌≡◌, ℕ, ◌+◌, ◌-◌, ◌<◌, ◌≤◌, true, List, [], ◌∷◌, ◌++◌, length, get_or, map, take, drop, sym, ap, ap₂, subst, ◌∙◌, append_assoc, arith}
use Rattle.std.specs.List.{All, range_with_len, sum_by}
use Rattle.std.proofs.lemmas.List.{take_more}
use Rattle.std.proofs.lemmas.List.Sums.{sum_by-append, sum_by-cons, sum_by_push}
use Rattle.std.proofs.lemmas.List.Folds.{length-flat_map-take}
use Rattle.std.proofs.lemmas.List.FromFn.{length-range_with_len}
use Rattle.vx_mask.specs.Positions.{ascending, run_positions}
use Rattle.vx_mask.proofs.AscendingLists.{covered_more, next_index}
use Rattle.vx_lists.specs.Lists.{AreOffsets, row_count}
use Rattle.vx_lists.specs.Sums.{length_at, offsets_of, sums_from}
use Rattle.vx_lists.proofs.Joined.{sums_more}
use Rattle.vx_filter.proofs.Moves.{run_first_of}
use Rattle.vx_lists.proofs.Spans.{offsets_ordered}
use Rattle.vx_lemmas.proofs.Lists.{range_split}
use Rattle.vx_mask.proofs.RunLists.{covered_first}

-- running sums of two lists, joined
pub sums_joined : {Y : Type 0} (f : Y → ℕ) (start : ℕ) (xs ys : List Y) → sums_from start (map f (xs ++ ys)) ≡ sums_from start (map f xs) ++ sums_from (start + sum_by f xs) (map f ys)
sums_joined f start [] ys = let none : start ≡ start + 0 = omega arith in ap (λ n. sums_from n (map f ys)) none
sums_joined f start (x ∷ xs) ys =
    let same : start + f x + sum_by f xs ≡ start + sum_by f (x ∷ xs) = omega (arith, sum_by-cons f x xs) in
    ap (λ l. (start + f x) ∷ l) (sums_joined f (start + f x) xs ys ∙ ap (λ n. sums_from (start + f x) (map f xs) ++ sums_from n (map f ys)) same)

-- the sums of the lengths of the rows `done`; the rows `left` come from row `low` on
pub record AreSummed (offsets : List ℕ) (done left sums : List ℕ) (total : ℕ) : Type 0 where
  pub low : ℕ
  pub kept : sums ≡ offsets_of (map (length_at offsets) done)
  pub all : total ≡ sum_by (length_at offsets) done
  pub behind : total ≤ get_or offsets low 0
  pub rest : ascending low (row_count offsets) left ≡ true

-- ---- by indices

-- what a step by a row needs
pub record IsNextRow (offsets : List ℕ) (total i : ℕ) : Type 0 where
  pub last : i + 1 < length offsets
  pub ordered : get_or offsets i 0 ≤ get_or offsets (i + 1) 0
  pub behind : total ≤ get_or offsets i 0

module _ (offsets indices : List ℕ) (k : ℕ) (sums : List ℕ) (total : ℕ) where
  pub next_summed : k < length indices → AreOffsets offsets → AreSummed offsets (take k indices) (drop k indices) sums total → IsNextRow offsets total (get_or indices k 0)
  next_summed h are v =
      let i = get_or indices k 0 in
      let next = next_index v.low (row_count offsets) k indices h v.rest in
      let within = next.within in
      let from = next.from in
      let some = are.some in
      let last : i + 1 < length offsets = omega arith in
      let before = offsets_ordered offsets v.low i are from (omega arith) in
      record { last = last; ordered = are.ascend i 0 last; behind = omega (arith, v.behind, before) }

  pub row_summed : (new : List ℕ) (sum : ℕ) → k < length indices → AreOffsets offsets → AreSummed offsets (take k indices) (drop k indices) sums total → sum ≡ total + (get_or offsets (get_or indices k 0 + 1) 0 - get_or offsets (get_or indices k 0) 0) → new ≡ sums ++ sum ∷ [] → AreSummed offsets (take (k + 1) indices) (drop (k + 1) indices) new sum
  row_summed new sum h are v e f =
      let i = get_or indices k 0 in
      let length_of = length_at offsets in
      let done = take k indices in
      let next = next_index v.low (row_count offsets) k indices h v.rest in
      let row = next_summed h are v in
      let more = take_more indices k 0 h in
      let whole : sum ≡ 0 + sum_by length_of done + length_of i = omega (arith, e, v.all) in
      record {
        low = i + 1;
        kept = f ∙ ap₂ (λ l n. l ++ n ∷ []) v.kept whole ∙ ap (λ l. 0 ∷ l) (sym (sums_more length_of 0 done i)) ∙ ap (λ l. offsets_of (map length_of l)) (sym more);
        all = omega (arith, e, v.all, sum_by_push length_of done i) ∙ ap (sum_by length_of) (sym more);
        behind = omega (arith, e, row.ordered, row.behind);
        rest = next.then;
      }

-- ---- by runs

-- what a step by a run needs
pub record IsNextRunOfRows (offsets : List ℕ) (total first end : ℕ) : Type 0 where
  pub last : end < length offsets
  pub behind : total ≤ get_or offsets first 0

module _ (offsets : List ℕ) (runs : List (ℕ × ℕ)) (k : ℕ) (sums : List ℕ) (total : ℕ) where
  pub next_run_summed : k < length runs → AreOffsets offsets → All (λ run. run.0 < run.1) runs → AreSummed offsets (run_positions (take k runs)) (run_positions (drop k runs)) sums total → IsNextRunOfRows offsets total (get_or runs k (0, 0)).0 (get_or runs k (0, 0)).1
  next_run_summed h are nonempty v =
      let run = get_or runs k (0, 0) in
      let some : run.0 < run.1 = nonempty k (0, 0) h in
      let first = run_first_of v.low (row_count offsets) run.0 (run.1 - run.0) (run_positions (drop (k + 1) runs)) (omega arith) (ap (ascending v.low (row_count offsets)) (sym (covered_first runs k (0, 0) h)) ∙ v.rest) in
      let within = first.within in
      let from = first.from in
      let one = are.some in
      let last : run.1 < length offsets = omega arith in
      let before = offsets_ordered offsets v.low run.0 are from (omega arith) in
      record { last = last; behind = omega (arith, v.behind, before) }

  pub run_summed : (new : List ℕ) (sum : ℕ) → k < length runs → AreOffsets offsets → All (λ run. run.0 < run.1) runs → AreSummed offsets (run_positions (take k runs)) (run_positions (drop k runs)) sums total → new ≡ sums ++ sums_from total (map (length_at offsets) (range_with_len (get_or runs k (0, 0)).0 ((get_or runs k (0, 0)).1 - (get_or runs k (0, 0)).0))) → sum ≡ total + sum_by (length_at offsets) (range_with_len (get_or runs k (0, 0)).0 ((get_or runs k (0, 0)).1 - (get_or runs k (0, 0)).0)) → sum ≤ get_or offsets (get_or runs k (0, 0)).1 0 → AreSummed offsets (run_positions (take (k + 1) runs)) (run_positions (drop (k + 1) runs)) new sum
  run_summed new sum h are nonempty v e f bound =
      let run = get_or runs k (0, 0) in
      let length_of = length_at offsets in
      let done = run_positions (take k runs) in
      let rows = range_with_len run.0 (run.1 - run.0) in
      let some : run.0 < run.1 = nonempty k (0, 0) h in
      let first = run_first_of v.low (row_count offsets) run.0 (run.1 - run.0) (run_positions (drop (k + 1) runs)) (omega arith) (ap (ascending v.low (row_count offsets)) (sym (covered_first runs k (0, 0) h)) ∙ v.rest) in
      let whole : run.0 + (run.1 - run.0) ≡ run.1 = omega arith in
      let more = covered_more runs k (0, 0) h in
      let before : total ≡ 0 + sum_by length_of done = omega (arith, v.all) in
      record {
        low = run.1;
        kept = e ∙ ap₂ (λ l n. l ++ sums_from n (map length_of rows)) v.kept before ∙ ap (λ l. 0 ∷ l) (sym (sums_joined length_of 0 done rows)) ∙ ap (λ l. offsets_of (map length_of l)) (sym more);
        all = omega (arith, f, v.all, sum_by-append length_of done rows) ∙ ap (sum_by length_of) (sym more);
        behind = bound;
        rest = subst (λ (n : ℕ). ascending n (row_count offsets) (run_positions (drop (k + 1) runs)) ≡ true) whole first.then;
      }

-- ---- rows in a row

-- one more row
pub row_pushed : (offsets : List ℕ) (first i before : ℕ) (start old new : List ℕ) (total sum : ℕ) → first ≤ i → old ≡ start ++ sums_from before (map (length_at offsets) (range_with_len first (i - first))) → total ≡ before + sum_by (length_at offsets) (range_with_len first (i - first)) → sum ≡ total + length_at offsets i → new ≡ old ++ sum ∷ [] → (new ≡ start ++ sums_from before (map (length_at offsets) (range_with_len first (i + 1 - first)))) × (sum ≡ before + sum_by (length_at offsets) (range_with_len first (i + 1 - first)))
row_pushed offsets first i before start old new total sum h e f g k =
    let length_of = length_at offsets in
    let rows = range_with_len first (i - first) in
    let more : i + 1 - first ≡ i - first + 1 = omega arith in
    let place : first + (i - first) ≡ i = omega arith in
    let grown = ap (range_with_len first) more ∙ range_split first (i - first) 1 ∙ ap (λ a. rows ++ a ∷ []) place in
    let whole : sum ≡ before + sum_by length_of rows + length_of i = omega (arith, g, f) in (
      k ∙ ap₂ (λ l n. l ++ n ∷ []) e whole ∙ append_assoc start (sums_from before (map length_of rows)) ((before + sum_by length_of rows + length_of i) ∷ [])
          ∙ ap (λ l. start ++ l) (sym (sums_more length_of before rows i)) ∙ ap (λ l. start ++ sums_from before (map length_of l)) (sym grown),
      omega (arith, whole, sum_by_push length_of rows i) ∙ ap (λ l. before + sum_by length_of l) (sym grown),
    )

-- there is room for the sums of a run
pub run_room : (runs : List (ℕ × ℕ)) (k : ℕ) → k < length runs → length (run_positions (take k runs)) + ((get_or runs k (0, 0)).1 - (get_or runs k (0, 0)).0) ≤ length (run_positions runs)
run_room runs k h =
    let run = get_or runs k (0, 0) in
    omega (arith, length-flat_map-take (λ (r : ℕ × ℕ). range_with_len r.0 (r.1 - r.0)) runs k (0, 0) h, length-range_with_len run.0 (run.1 - run.0))
