-- The spans of lists, and bits that are set in them.
use Rattle.std.proofs.Common.{◌≡◌, ℕ, zero, suc, ◌+◌, ◌-◌, ◌<◌, ◌≤◌, Bool, true, false, List, [], ◌∷◌, ◌++◌, length, get_or, map, refl, sym, ap, ap₂, subst, ◌∙◌, inl, inr, Ok, Err, Result, IfOk, add-one, arith}
use Rattle.std.specs.List.{All, items_where_true, range_with_len}
use Rattle.std.proofs.lemmas.Bool.{cases_lt}
use Rattle.std.proofs.lemmas.List.Elements.{All-cons, All-tail}
use Rattle.vx_mask.specs.Positions.{ascending, positions, run_positions, set_of}
use Rattle.vx_filter.proofs.Picks.{set_ascends}
use Rattle.vx_offsets.specs.Offsets.{spans}
use Rattle.vx_lists.specs.Lists.{AreElementBits, AreOffsets, Covers, IsWithin, row_count, selected_spans, span_at}
use Rattle.vx_lemmas.proofs.Lists.{range_split, map_alike}

-- ---- each span by its row

map_next : {X : Type 0} (f : ℕ → X) (a n : ℕ) → map f (range_with_len (a + 1) n) ≡ map (λ i. f (i + 1)) (range_with_len a n)
map_next f a zero = refl
map_next f a (suc n) = ap (λ l. f (a + 1) ∷ l) (map_next f (a + 1) n)

get_or_next : (x : ℕ) (xs : List ℕ) (i : ℕ) → get_or (x ∷ xs) (i + 1) 0 ≡ get_or xs i 0
get_or_next x xs i = ap (λ k. get_or (x ∷ xs) k 0) (add-one i)

span_next : (x : ℕ) (xs : List ℕ) (i : ℕ) → span_at (x ∷ xs) (i + 1) ≡ span_at xs i
span_next x xs i = ap₂ (λ (a b : ℕ). let s : ℕ × ℕ = (a, b) in s) (get_or_next x xs i) (get_or_next x xs (i + 1))

-- the spans are those of the rows
pub spans_of_rows : (offsets : List ℕ) → spans offsets ≡ map (span_at offsets) (range_with_len 0 (row_count offsets))
spans_of_rows [] = refl
spans_of_rows (x ∷ []) = refl
spans_of_rows (x ∷ y ∷ xs) =
    let all = x ∷ y ∷ xs in
    let n = row_count (y ∷ xs) in
    let more : row_count all ≡ suc n = omega arith in
    let first : (x, y) ≡ span_at all 0 = ap (λ (b : ℕ). let s : ℕ × ℕ = (x, b) in s) (sym (get_or_next x (y ∷ xs) 0)) in
    let rest = map_next (span_at all) 0 n ∙ map_alike (λ i. span_at all (i + 1)) (span_at (y ∷ xs)) (span_next x (y ∷ xs)) (range_with_len 0 n) in
    ap₂ ◌∷◌ first (spans_of_rows (y ∷ xs) ∙ sym rest)
    ∙ sym (ap (λ k. map (span_at all) (range_with_len 0 k)) more)

-- ---- rows that follow one another

-- an offset is at most a later one
pub offsets_ascend : (offsets : List ℕ) (i n : ℕ) → AreOffsets offsets → i + n < length offsets → get_or offsets i 0 ≤ get_or offsets (i + n) 0
offsets_ascend offsets i zero are h = let same : i + 0 ≡ i = omega arith in omega (arith, ap (λ k. get_or offsets k 0) same)
offsets_ascend offsets i (suc n) are h =
    let next : i + suc n ≡ i + n + 1 = omega arith in
    omega (arith, offsets_ascend offsets i n are (omega arith), are.ascend (i + n) 0 (omega arith), ap (λ k. get_or offsets k 0) next)

pub offsets_ordered : (offsets : List ℕ) (i j : ℕ) → AreOffsets offsets → i ≤ j → j < length offsets → get_or offsets i 0 ≤ get_or offsets j 0
offsets_ordered offsets i j are p q =
    let whole : i + (j - i) ≡ j = omega arith in
    omega (arith, offsets_ascend offsets i (j - i) are (omega arith), ap (λ k. get_or offsets k 0) whole)

-- numbers in a row, all moved
pub range_moved : (by a n : ℕ) → map (λ p. by + p) (range_with_len a n) ≡ range_with_len (by + a) n
range_moved by a zero = refl
range_moved by a (suc n) =
    let next : by + (a + 1) ≡ by + a + 1 = omega arith in
    ap (λ l. (by + a) ∷ l) (range_moved by (a + 1) n ∙ ap (λ k. range_with_len k n) next)

-- the items of rows that follow one another lie one after another
pub spans_joined : (offsets : List ℕ) (i n : ℕ) → AreOffsets offsets → i + n < length offsets → run_positions (map (span_at offsets) (range_with_len i n)) ≡ range_with_len (get_or offsets i 0) (get_or offsets (i + n) 0 - get_or offsets i 0)
spans_joined offsets i zero are h =
    let same : i + 0 ≡ i = omega arith in
    let none : 0 ≡ get_or offsets (i + 0) 0 - get_or offsets i 0 = omega (arith, ap (λ k. get_or offsets k 0) same) in
    ap (range_with_len (get_or offsets i 0)) none
spans_joined offsets i (suc n) are h =
    let next : i + 1 + n ≡ i + suc n = omega arith in
    let low = get_or offsets i 0 in
    let mid = get_or offsets (i + 1) 0 in
    let high = get_or offsets (i + suc n) 0 in
    let first : low ≤ mid = are.ascend i 0 (omega arith) in
    let rest : mid ≤ high = offsets_ordered offsets (i + 1) (i + suc n) are (omega arith) h in
    let whole : (mid - low) + (high - mid) ≡ high - low = omega arith in
    let joint : low + (mid - low) ≡ mid = omega arith in
    ap (λ l. range_with_len low (mid - low) ++ l) (spans_joined offsets (i + 1) n are (omega arith) ∙ ap (λ k. range_with_len mid (get_or offsets k 0 - mid)) next)
    ∙ sym (ap (range_with_len low) (sym whole) ∙ range_split low (mid - low) (high - mid) ∙ ap (λ k. range_with_len low (mid - low) ++ range_with_len k (high - mid)) joint)

-- a range that covers rows that follow one another covers their items
pub spans_within : (range : ℕ × ℕ) (offsets : List ℕ) (i n : ℕ) → AreOffsets offsets → i + n < length offsets → All (λ k. IsWithin range (span_at offsets k)) (range_with_len i n) → IsWithin range (get_or offsets i 0, get_or offsets (i + n) 0)
spans_within range offsets i zero are h all some =
    let same : i + 0 ≡ i = omega arith in
    absurd (omega (arith, ap (λ k. get_or offsets k 0) same))
spans_within range offsets i (suc n) are h all some =
    let next : i + 1 + n ≡ i + suc n = omega arith in
    let low = get_or offsets i 0 in
    let mid = get_or offsets (i + 1) 0 in
    let high = get_or offsets (i + suc n) 0 in
    let first : low ≤ mid = are.ascend i 0 (omega arith) in
    let rest : mid ≤ high = offsets_ordered offsets (i + 1) (i + suc n) are (omega arith) h in
    let here : IsWithin range (low, mid) = all 0 0 (omega arith) in
    let later : IsWithin range (mid, high) = subst (λ (k : ℕ). IsWithin range (mid, get_or offsets k 0)) next (spans_within range offsets (i + 1) n are (omega arith) (All-tail (λ (k : ℕ). IsWithin range (span_at offsets k)) i (range_with_len (i + 1) n) all)) in
    elim (cases_lt low mid) [
      | inl some_here ↦ elim (cases_lt mid high) [
        | inl some_later ↦ ((here some_here).0, (later some_later).1)
        | inr none ↦ let w = here some_here in (w.0, omega (arith, w.1))
      ]
      | inr none ↦ let w = later (omega arith) in (omega (arith, w.0), w.1)
    ]

-- what a function gives at numbers in a row, where bits are set
pub picked_in_row : {X : Type 0} (f : ℕ → X) (at : ℕ) (bits : List Bool) → items_where_true bits (map f (range_with_len at (length bits))) ≡ map f (positions at bits)
picked_in_row f at [] = refl
picked_in_row f at (true ∷ bits) = ap (λ l. f at ∷ l) (picked_in_row f (at + 1) bits)
picked_in_row f at (false ∷ bits) = picked_in_row f (at + 1) bits

-- the spans of selected rows are those at the set positions
pub spans_at_the_set : (offsets : List ℕ) (bits : List Bool) → length offsets ≡ length bits + 1 → selected_spans offsets bits ≡ map (span_at offsets) (set_of bits)
spans_at_the_set offsets bits h =
    let rows : row_count offsets ≡ length bits = omega arith in
    ap (items_where_true bits) (spans_of_rows offsets)
    ∙ ap (λ n. items_where_true bits (map (span_at offsets) (range_with_len 0 n))) rows ∙ picked_in_row (span_at offsets) 0 bits

-- what holds of each item of a list that a function gives
pub All-of_map : {X Y : Type 0} (P : Y → Type 0) (f : X → Y) (xs : List X) → All P (map f xs) → All (λ x. P (f x)) xs
All-of_map P f [] h = λ k d p. absurd (omega arith)
All-of_map P f (x ∷ xs) h = All-cons (λ y. P (f y)) x xs (h 0 (f x) (omega arith)) (All-of_map P f xs (All-tail P (f x) (map f xs) h))

pub covered_at_the_set : (range : ℕ × ℕ) (offsets : List ℕ) (bits : List Bool) → length offsets ≡ length bits + 1 → Covers range offsets bits → All (λ i. IsWithin range (span_at offsets i)) (set_of bits)
covered_at_the_set range offsets bits h covers =
    All-of_map (IsWithin range) (span_at offsets) (set_of bits) (subst (λ (l : List (ℕ × ℕ)). All (IsWithin range) l) (spans_at_the_set offsets bits h) covers)

-- ---- rows that are the set positions

pub rows_ascend : (offsets : List ℕ) (bits : List Bool) (rows : List ℕ) → length offsets ≡ length bits + 1 → rows ≡ set_of bits → ascending 0 (row_count offsets) rows ≡ true
rows_ascend offsets bits rows h e = ap (ascending 0 (row_count offsets)) e ∙ set_ascends bits (row_count offsets) (omega arith)

pub rows_covered : (range : ℕ × ℕ) (offsets : List ℕ) (bits : List Bool) (rows : List ℕ) → length offsets ≡ length bits + 1 → rows ≡ set_of bits → Covers range offsets bits → All (λ i. IsWithin range (span_at offsets i)) rows
rows_covered range offsets bits rows h e covers = subst (λ (l : List ℕ). All (λ i. IsWithin range (span_at offsets i)) l) (sym e) (covered_at_the_set range offsets bits h covers)

pub rows_marked_all : (offsets : List ℕ) (selection : List Bool) (range : ℕ × ℕ) (rows : List ℕ) (bits : List Bool) → length offsets ≡ length selection + 1 → rows ≡ set_of selection → length bits ≡ range.1 - range.0 → map (λ p. range.0 + p) (set_of bits) ≡ run_positions (map (span_at offsets) rows) → AreElementBits offsets selection range bits
rows_marked_all offsets selection range rows bits h e long set = record {
  len = long;
  set = set ∙ ap run_positions (ap (map (span_at offsets)) e ∙ sym (spans_at_the_set offsets selection h));
}

-- a result's bits that are set in the spans of the selected rows are those of the elements
pub ok_marked : {V E : Type 0} (r : Result V E) (bits : V → List Bool) (offsets : List ℕ) (selection : List Bool) (range : ℕ × ℕ) (rows : List ℕ) → length offsets ≡ length selection + 1 → rows ≡ set_of selection → IfOk r (λ v. length (bits v) ≡ range.1 - range.0) → IfOk r (λ v. map (λ p. range.0 + p) (set_of (bits v)) ≡ run_positions (map (span_at offsets) rows)) → IfOk r (λ v. AreElementBits offsets selection range (bits v))
ok_marked (Ok v) bits offsets selection range rows h e long set = rows_marked_all offsets selection range rows (bits v) h e long set
ok_marked (Err x) bits offsets selection range rows h e long set = long
