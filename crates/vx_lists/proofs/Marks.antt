-- Bits that are set in the elements of lists, list by list.
use Rattle.std.proofs.Common.{◌≡◌, ℕ, zero, suc, ◌+◌, ◌-◌, ◌*◌, ◌/◌, ◌%◌, ◌^◌, ◌<◌, ◌≤◌, Bool, true, false, cond, List, [], ◌∷◌, ◌++◌, length, get_or, map, take, drop, replicate, refl, sym, ap, ap₂, subst, ◌∙◌, append_assoc, arith}
use Rattle.std.specs.List.{All, range_with_len}
use Rattle.std.specs.Prelude.{nat_lt}
use Rattle.std.proofs.lemmas.Nat.{pow_pos, shl_whole}
use Rattle.std.proofs.lemmas.Nat.Bits.{ones_shr}
use Rattle.std.proofs.lemmas.Bool.{ltb-true}
use Rattle.std.proofs.lemmas.List.{drop_more, length-append, length-replicate, map-append, take_more}
use Rattle.std.proofs.lemmas.List.Concat.{flat_map-append}
use Rattle.std.proofs.lemmas.List.Elements.{All-cons, All-get_or}
use Rattle.vx_bits.specs.Words.{word_bits}
use Rattle.vx_bits.proofs.WordBits.{full-word_bits, word_bits-append, zero-word_bits}
use Rattle.vx_mask.specs.Positions.{ascending, run_positions, set_of}
use Rattle.vx_mask.proofs.AscendingLists.{covered_more}
use Rattle.vx_mask.proofs.PositionLists.{set_of_clear, set_of_set}
use Rattle.vx_lists.specs.Lists.{AreOffsets, IsWithin, row_count, span_at}
use Rattle.vx_filter.proofs.Moves.{run_first_of}
use Rattle.vx_lists.proofs.Spans.{offsets_ordered, range_moved, spans_joined, spans_within}
use Rattle.vx_mask.proofs.RunLists.{covered_first}

-- the bits of a range, up to row `low`, are set at the items of the rows `done`; the rows `left`
-- come from `low` on
pub record AreMarked (offsets : List ℕ) (range : ℕ × ℕ) (bits : List Bool) (done left : List ℕ) : Type 0 where
  pub low : ℕ
  pub set : map (λ p. range.0 + p) (set_of bits) ≡ run_positions (map (span_at offsets) done)
  pub behind : length bits ≤ get_or offsets low 0 - range.0
  pub within : length bits ≤ range.1 - range.0
  pub rest : ascending low (row_count offsets) left ≡ true

-- where the items of the rows from i up to j can be put
pub record IsPlaced (offsets : List ℕ) (range : ℕ × ℕ) (bits : List Bool) (i j : ℕ) : Type 0 where
  pub last : j < length offsets
  pub ordered : get_or offsets i 0 ≤ get_or offsets j 0
  pub behind : get_or offsets i 0 < get_or offsets j 0 → range.0 + length bits ≤ get_or offsets i 0
  pub within : IsWithin range (get_or offsets i 0, get_or offsets j 0)

pub rows_placed : (offsets : List ℕ) (range : ℕ × ℕ) (bits : List Bool) (done rest : List ℕ) (i j : ℕ) → i < j → AreOffsets offsets → All (λ k. IsWithin range (span_at offsets k)) (range_with_len i (j - i)) → AreMarked offsets range bits done (range_with_len i (j - i) ++ rest) → IsPlaced offsets range bits i j
rows_placed offsets range bits done rest i j some are covers v =
    let first = run_first_of v.low (row_count offsets) i (j - i) rest (omega arith) v.rest in
    let first_from = first.from in
    let first_within = first.within in
    let first_offset = are.some in
    let whole : i + (j - i) ≡ j = omega arith in
    let last : j < length offsets = omega arith in
    let within = subst (λ (k : ℕ). IsWithin range (get_or offsets i 0, get_or offsets k 0)) whole (spans_within range offsets i (j - i) are (omega arith) covers) in
    let before = offsets_ordered offsets v.low i are first_from (omega arith) in
    record {
      last = last;
      ordered = offsets_ordered offsets i j are (omega arith) last;
      behind = λ h. omega (arith, (within h).0, v.behind, before);
      within = within;
    }

-- bits that grew up to `high`, or did not
grown : (b : Bool) (low high start old new bound : ℕ) → nat_lt low high ≡ b → new ≡ cond b (high - start) old → (low < high → high - start ≤ bound) → old ≤ bound → new ≤ bound
grown true low high start old new bound e h p q = omega (arith, h, p (ltb-true low high e))
grown false low high start old new bound e h p q = omega (arith, h)

pub rows_marked : (offsets : List ℕ) (range : ℕ × ℕ) (bits new : List Bool) (done rest : List ℕ) (i j : ℕ) → i < j → AreOffsets offsets → All (λ k. IsWithin range (span_at offsets k)) (range_with_len i (j - i)) → AreMarked offsets range bits done (range_with_len i (j - i) ++ rest) → map (λ p. range.0 + p) (set_of new) ≡ map (λ p. range.0 + p) (set_of bits) ++ range_with_len (get_or offsets i 0) (get_or offsets j 0 - get_or offsets i 0) → length new ≡ cond (nat_lt (get_or offsets i 0) (get_or offsets j 0)) (get_or offsets j 0 - range.0) (length bits) → AreMarked offsets range new (done ++ range_with_len i (j - i)) rest
rows_marked offsets range bits new done rest i j some are covers v e long =
    let placed = rows_placed offsets range bits done rest i j some are covers v in
    let first = run_first_of v.low (row_count offsets) i (j - i) rest (omega arith) v.rest in
    let first_from = first.from in
    let first_offset = are.some in
    let last = placed.last in
    let whole : i + (j - i) ≡ j = omega arith in
    let low = get_or offsets i 0 in
    let high = get_or offsets j 0 in
    let rows = range_with_len i (j - i) in
    let joined = spans_joined offsets i (j - i) are (omega arith) ∙ ap (λ k. range_with_len low (get_or offsets k 0 - low)) whole in
    let before = offsets_ordered offsets v.low j are (omega arith) last in
    let behind = v.behind in
    record {
      low = j;
      set = e ∙ ap₂ ◌++◌ v.set (sym joined)
          ∙ sym (ap run_positions (map-append (span_at offsets) done rows) ∙ flat_map-append (λ (span : ℕ × ℕ). range_with_len span.0 (span.1 - span.0)) (map (span_at offsets) done) (map (span_at offsets) rows));
      behind = grown (nat_lt low high) low high range.0 (length bits) (length new) (high - range.0) refl long (λ h. omega arith) (omega arith);
      within = grown (nat_lt low high) low high range.0 (length bits) (length new) (range.1 - range.0) refl long (λ h. omega (arith, (placed.within h).1)) v.within;
      rest = subst (λ (n : ℕ). ascending n (row_count offsets) rest ≡ true) whole first.then;
    }

-- ---- rows by their indices

one_row : (i : ℕ) → range_with_len i (i + 1 - i) ≡ i ∷ []
one_row i = let one : i + 1 - i ≡ 1 = omega arith in ap (range_with_len i) one

All-one : (P : ℕ → Type 0) (i : ℕ) (rows : List ℕ) → rows ≡ i ∷ [] → P i → All P rows
All-one P i rows e h = subst (λ (l : List ℕ). All P l) (sym e) place
  where
    place : All P (i ∷ [])
    place zero d p = h
    place (suc k) d p = absurd (omega arith)

module _ (offsets : List ℕ) (range : ℕ × ℕ) (bits : List Bool) (indices : List ℕ) (k : ℕ) where
  next_row : k < length indices → AreMarked offsets range bits (take k indices) (drop k indices) → AreMarked offsets range bits (take k indices) (range_with_len (get_or indices k 0) (get_or indices k 0 + 1 - get_or indices k 0) ++ drop (k + 1) indices)
  next_row h v =
      let i = get_or indices k 0 in
      subst (λ (l : List ℕ). AreMarked offsets range bits (take k indices) l) (drop_more indices k 0 h ∙ ap (λ l. l ++ drop (k + 1) indices) (sym (one_row i))) v

  row_covered : k < length indices → All (λ i. IsWithin range (span_at offsets i)) indices → All (λ i. IsWithin range (span_at offsets i)) (range_with_len (get_or indices k 0) (get_or indices k 0 + 1 - get_or indices k 0))
  row_covered h covers =
      let i = get_or indices k 0 in
      All-one (λ i. IsWithin range (span_at offsets i)) i (range_with_len i (i + 1 - i)) (one_row i) (All-get_or (λ i. IsWithin range (span_at offsets i)) indices k 0 h covers)

  pub row_placed : k < length indices → AreOffsets offsets → All (λ i. IsWithin range (span_at offsets i)) indices → AreMarked offsets range bits (take k indices) (drop k indices) → IsPlaced offsets range bits (get_or indices k 0) (get_or indices k 0 + 1)
  row_placed h are covers v =
      let i = get_or indices k 0 in
      rows_placed offsets range bits (take k indices) (drop (k + 1) indices) i (i + 1) (omega arith) are (row_covered h covers) (next_row h v)

  pub row_marked : (new : List Bool) → k < length indices → AreOffsets offsets → All (λ i. IsWithin range (span_at offsets i)) indices → AreMarked offsets range bits (take k indices) (drop k indices) → map (λ p. range.0 + p) (set_of new) ≡ map (λ p. range.0 + p) (set_of bits) ++ range_with_len (get_or offsets (get_or indices k 0) 0) (get_or offsets (get_or indices k 0 + 1) 0 - get_or offsets (get_or indices k 0) 0) → length new ≡ cond (nat_lt (get_or offsets (get_or indices k 0) 0) (get_or offsets (get_or indices k 0 + 1) 0)) (get_or offsets (get_or indices k 0 + 1) 0 - range.0) (length bits) → AreMarked offsets range new (take (k + 1) indices) (drop (k + 1) indices)
  row_marked new h are covers v e long =
      let i = get_or indices k 0 in
      subst (λ (l : List ℕ). AreMarked offsets range new l (drop (k + 1) indices)) (ap (λ l. take k indices ++ l) (one_row i) ∙ sym (take_more indices k 0 h))
      (rows_marked offsets range bits new (take k indices) (drop (k + 1) indices) i (i + 1) (omega arith) are (row_covered h covers) (next_row h v) e long)

-- ---- rows by runs of them

-- what holds along a list of runs' positions holds along each run's
All-left : (P : ℕ → Type 0) (xs ys : List ℕ) → All P (xs ++ ys) → All P xs
All-left P [] ys h = λ k d p. absurd (omega arith)
All-left P (x ∷ xs) ys h = All-cons P x xs (h 0 x (omega arith)) (All-left P xs ys (λ j e q. h (suc j) e (omega arith)))

All-right : (P : ℕ → Type 0) (xs ys : List ℕ) → All P (xs ++ ys) → All P ys
All-right P [] ys h = h
All-right P (x ∷ xs) ys h = All-right P xs ys (λ j e q. h (suc j) e (omega arith))

All-run : (P : ℕ → Type 0) (runs : List (ℕ × ℕ)) (k : ℕ) → k < length runs → All P (run_positions runs) → All P (range_with_len (get_or runs k (0, 0)).0 ((get_or runs k (0, 0)).1 - (get_or runs k (0, 0)).0))
All-run P [] k h all = absurd (omega arith)
All-run P (run ∷ runs) zero h all = All-left P (range_with_len run.0 (run.1 - run.0)) (run_positions runs) all
All-run P (run ∷ runs) (suc k) h all = All-run P runs k (omega arith) (All-right P (range_with_len run.0 (run.1 - run.0)) (run_positions runs) all)

module _ (offsets : List ℕ) (range : ℕ × ℕ) (bits : List Bool) (runs : List (ℕ × ℕ)) (k : ℕ) where
  next_run_rows : k < length runs → AreMarked offsets range bits (run_positions (take k runs)) (run_positions (drop k runs)) → AreMarked offsets range bits (run_positions (take k runs)) (range_with_len (get_or runs k (0, 0)).0 ((get_or runs k (0, 0)).1 - (get_or runs k (0, 0)).0) ++ run_positions (drop (k + 1) runs))
  next_run_rows h v = subst (λ (l : List ℕ). AreMarked offsets range bits (run_positions (take k runs)) l) (covered_first runs k (0, 0) h) v

  pub run_placed : k < length runs → AreOffsets offsets → All (λ run. run.0 < run.1) runs → All (λ i. IsWithin range (span_at offsets i)) (run_positions runs) → AreMarked offsets range bits (run_positions (take k runs)) (run_positions (drop k runs)) → IsPlaced offsets range bits (get_or runs k (0, 0)).0 (get_or runs k (0, 0)).1
  run_placed h are some covers v =
      let run = get_or runs k (0, 0) in
      rows_placed offsets range bits (run_positions (take k runs)) (run_positions (drop (k + 1) runs)) run.0 run.1 (some k (0, 0) h) are (All-run (λ i. IsWithin range (span_at offsets i)) runs k h covers) (next_run_rows h v)

  pub run_marked : (new : List Bool) → k < length runs → AreOffsets offsets → All (λ run. run.0 < run.1) runs → All (λ i. IsWithin range (span_at offsets i)) (run_positions runs) → AreMarked offsets range bits (run_positions (take k runs)) (run_positions (drop k runs)) → map (λ p. range.0 + p) (set_of new) ≡ map (λ p. range.0 + p) (set_of bits) ++ range_with_len (get_or offsets (get_or runs k (0, 0)).0 0) (get_or offsets (get_or runs k (0, 0)).1 0 - get_or offsets (get_or runs k (0, 0)).0 0) → length new ≡ cond (nat_lt (get_or offsets (get_or runs k (0, 0)).0 0) (get_or offsets (get_or runs k (0, 0)).1 0)) (get_or offsets (get_or runs k (0, 0)).1 0 - range.0) (length bits) → AreMarked offsets range new (run_positions (take (k + 1) runs)) (run_positions (drop (k + 1) runs))
  run_marked new h are some covers v e long =
      let run = get_or runs k (0, 0) in
      subst (λ (l : List ℕ). AreMarked offsets range new l (run_positions (drop (k + 1) runs))) (sym (covered_more runs k (0, 0) h))
      (rows_marked offsets range bits new (run_positions (take k runs)) (run_positions (drop (k + 1) runs)) run.0 run.1 (some k (0, 0) h) are (All-run (λ i. IsWithin range (span_at offsets i)) runs k h covers) (next_run_rows h v) e long)

-- ---- the bits of one step

-- so many ones
ones_word : (n : ℕ) → n ≤ 64 → (2 ^ 64 - 1) / 2 ^ (64 - n) ≡ 2 ^ n - 1
ones_word n h =
    let left : 64 - (64 - n) ≡ n = omega arith in
    ones_shr 64 (64 - n) (omega arith) ∙ ap (λ k. 2 ^ k - 1) left

pub ones_put : (bits : List Bool) (n : ℕ) → n ≤ 64 → bits ++ word_bits ((2 ^ 64 - 1) / 2 ^ (64 - n)) n ≡ bits ++ replicate n true
ones_put bits n h = ap (λ l. bits ++ l) (ap (λ w. word_bits w n) (ones_word n h) ∙ full-word_bits n)

-- clear bits, and set ones behind them, as one word
pub run_put : (bits : List Bool) (clear set : ℕ) → clear + set ≤ 64 → bits ++ word_bits ((2 ^ 64 - 1) / 2 ^ (64 - set) * 2 ^ clear % 2 ^ 64) (clear + set) ≡ (bits ++ replicate clear false) ++ replicate set true
run_put bits clear set h =
    let some = pow_pos set in
    let none : (2 ^ set - 1) * 2 ^ clear ≡ (2 ^ set - 1) * 2 ^ clear + 0 = omega arith in
    let word = ap (λ w. w * 2 ^ clear % 2 ^ 64) (ones_word set (omega arith)) ∙ shl_whole (2 ^ set - 1) set clear 64 (omega (arith, some)) (omega arith) ∙ none in
    ap (λ l. bits ++ l) (ap (λ w. word_bits w (clear + set)) word ∙ word_bits-append 0 clear (2 ^ set - 1) set (pow_pos clear) ∙ ap₂ ◌++◌ (zero-word_bits clear) (full-word_bits set))
    ∙ sym (append_assoc bits (replicate clear false) (replicate set true))

-- clear bits up to a place, and set ones behind them
pub elements_appended : (bits first both : List Bool) (start low high : ℕ) → low < high → start + length bits ≤ low → first ≡ bits ++ replicate (low - start - length bits) false → both ≡ first ++ replicate (high - low) true → (map (λ p. start + p) (set_of both) ≡ map (λ p. start + p) (set_of bits) ++ range_with_len low (high - low)) × (length both ≡ high - start)
elements_appended bits first both start low high some room e f =
    let clear = low - start - length bits in
    let first_long : length first ≡ low - start = ap length e ∙ length-append bits (replicate clear false) ∙ omega (arith, length-replicate clear false) in
    let place : start + (low - start) ≡ low = omega arith in (
      ap (λ l. map (λ p. start + p) (set_of l)) f
          ∙ ap (map (λ p. start + p)) (set_of_set first (high - low) ∙ ap₂ (λ l a. l ++ range_with_len a (high - low)) (ap set_of e ∙ set_of_clear bits clear) first_long)
          ∙ map-append (λ p. start + p) (set_of bits) (range_with_len (low - start) (high - low))
          ∙ ap (λ l. map (λ p. start + p) (set_of bits) ++ l) (range_moved start (low - start) (high - low) ∙ ap (λ a. range_with_len a (high - low)) place),
      ap length f ∙ length-append first (replicate (high - low) true) ∙ omega (arith, length-replicate (high - low) true, first_long),
    )

-- clear bits up to a length
pub padded_bits : (bits all : List Bool) (len : ℕ) → length bits ≤ len → all ≡ bits ++ replicate (len - length bits) false → (length all ≡ len) × (set_of all ≡ set_of bits)
padded_bits bits all len h e =
    let clear = len - length bits in (
      ap length e ∙ length-append bits (replicate clear false) ∙ omega (arith, length-replicate clear false),
      ap set_of e ∙ set_of_clear bits clear,
    )
