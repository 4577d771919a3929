-- Lists of one size, one after another.
use Rattle.std.proofs.Common.{◌≡◌, ℕ, zero, suc, ◌+◌, ◌-◌, ◌*◌, ◌<◌, ◌≤◌, Bool, true, false, cond, List, [], ◌∷◌, ◌++◌, length, map, take, drop, replicate, None, Some, Option, refl, sym, ap, ap₂, subst, ◌∙◌, Ok, Err, Result, IfOk, arith}
use Rattle.std.specs.Prelude.{IfSome, nat_le, nat_lt, ◌&&◌, ◌==◌, if◌then◌else◌}
use Rattle.std.specs.List.{All, flat_map, items_where_true, range_with_len, slice_range, sum_by}
use Rattle.std.proofs.lemmas.Bool.{le-leb, lt-ltb}
use Rattle.std.proofs.lemmas.Bool.Decides.{nat_tests}
use Rattle.std.proofs.lemmas.List.Sums.{sum_by-cons}
use Rattle.std.proofs.lemmas.List.{drop-drop, drop_at, get_or-map, length-append, length-drop, length-replicate, length-take-le, take_at}
use Rattle.std.proofs.lemmas.List.Concat.{flat_map-append}
use Rattle.std.proofs.lemmas.List.FromFn.{length-range_with_len}
use Rattle.std.proofs.lemmas.List.Elements.{All-cons, All-nil, All-tail}
use Rattle.vx_bits.specs.BitBuffer.{true_count_of}
use Rattle.vx_bits.proofs.WordLists.{picked-append, picked_set}
use Rattle.vx_mask.specs.Positions.{ascending, positions, run_positions, runs_ascend, set_of}
use Rattle.vx_mask.proofs.BitsWith.{bits_told}
use Rattle.vx_mask.proofs.PositionLists.{length-positions, positions-append, positions_false, positions_true, true_count_of-cons}
use Rattle.vx_mask.specs.Mask.{slices_fault}
use Rattle.vx_mask.specs.declared.error.MaskError.TheVariants.{Slices}
use Rattle.vx_filter.proofs.Moves.{run_first_of, runs_within}
use Rattle.vx_filter.proofs.Picks.{set_ascends}
use Rattle.vx_offsets.specs.Offsets.{items_in}
use Rattle.vx_types.specs.RowValue.{RowValue}
use Rattle.vx_types.specs.declared.error.ColumnError.TheVariants.{BadValidity, WrongLength}
use Rattle.vx_model.specs.FixedSizeList.{FixedParts, fixed_fault, fixed_spans, runs_from}
use Rattle.vx_model.specs.Lists.{lists_of}
use Rattle.vx_model.specs.Valid.{Valid, is_fitting}
use Rattle.vx_model.proofs.ListRows.{elements-fixed}
use Rattle.vx_lists.specs.Plans.{MakesFixed}
use Rattle.vx_model.proofs.Items.{items_where_true-none}
use Rattle.vx_model.proofs.Spans.{get_or-runs_from, length-runs_from}
use Rattle.vx_take.specs.Picks.{AreBelow, at, in_runs, item_at, run_places}
use Rattle.vx_lists.specs.Fixed.{FiltersFixed, TakesFixed, fixed_lists, fixed_run, repeat_bits, scaled_run}
use Rattle.vx_lists.proofs.TakenLists.{length-places, same_places}
use Rattle.vx_lemmas.proofs.Lists.{range_split}
use Rattle.std.proofs.Math.Nat.{mul_comm}
use Rattle.vx_mask.proofs.RankedItems.{length-items_where_true}

-- ---- the bits of the elements

-- the places of the elements of list i
abbrev pub places_of : ℕ → ℕ → List ℕ
places_of size i = range_with_len (i * size) size

pub length-repeated : (size : ℕ) (bits : List Bool) → length (repeat_bits size bits) ≡ length bits * size
length-repeated size [] = omega arith
length-repeated size (b ∷ bits) =
    length-append (replicate size b) (repeat_bits size bits)
    ∙ ap₂ ◌+◌ (length-replicate size b) (length-repeated size bits)
    ∙ step (length bits)
  where
    step : (n : ℕ) → size + n * size ≡ suc n * size
    step n = omega arith

positions_repeated : (size a : ℕ) (bits : List Bool) → positions (a * size) (repeat_bits size bits) ≡ flat_map (places_of size) (positions a bits)
positions_repeated size a [] = refl
positions_repeated size a (b ∷ bits) =
    let next : a * size + length (replicate size b) ≡ (a + 1) * size = ap (λ n. a * size + n) (length-replicate size b) ∙ step in
    positions-append (a * size) (replicate size b) (repeat_bits size bits)
    ∙ ap (λ k. positions (a * size) (replicate size b) ++ positions k (repeat_bits size bits)) next
    ∙ ap (λ l. positions (a * size) (replicate size b) ++ l) (positions_repeated size (a + 1) bits)
    ∙ first b
  where
    step : a * size + size ≡ (a + 1) * size
    step = omega arith

    first : (b : Bool) → positions (a * size) (replicate size b) ++ flat_map (places_of size) (positions (a + 1) bits) ≡ flat_map (places_of size) (positions a (b ∷ bits))
    first true = ap (λ l. l ++ flat_map (places_of size) (positions (a + 1) bits)) (positions_true (a * size) size)
    first false = ap (λ l. l ++ flat_map (places_of size) (positions (a + 1) bits)) (positions_false (a * size) size)

-- lists in a row
places_in_row : (size a n : ℕ) → range_with_len (a * size) (n * size) ≡ flat_map (places_of size) (range_with_len a n)
places_in_row size a zero = let none : 0 * size ≡ 0 = omega arith in ap (range_with_len (a * size)) none
places_in_row size a (suc n) =
    let more : suc n * size ≡ size + n * size = omega arith in
    let next : a * size + size ≡ (a + 1) * size = omega arith in
    ap (range_with_len (a * size)) more ∙ range_split (a * size) size (n * size)
    ∙ ap (λ l. range_with_len (a * size) size ++ l) (ap (λ k. range_with_len k (n * size)) next ∙ places_in_row size (a + 1) n)

less_scaled : (size a b : ℕ) → a ≤ b → b * size - a * size ≡ (b - a) * size
less_scaled size a b h =
    let whole : b ≡ a + (b - a) = omega arith in
    let all : b * size ≡ a * size + (b - a) * size = ap (λ n. n * size) whole ∙ apart (b - a) in
    omega (arith, all)
  where
    apart : (d : ℕ) → (a + d) * size ≡ a * size + d * size
    apart d = omega arith

positions_scaled : (size : ℕ) (runs : List (ℕ × ℕ)) → All (λ run. run.0 < run.1) runs → run_positions (map (scaled_run size) runs) ≡ flat_map (places_of size) (run_positions runs)
positions_scaled size [] h = refl
positions_scaled size (run ∷ runs) h =
    let some : run.0 < run.1 = h 0 (0, 0) (omega arith) in
    let rows = range_with_len run.0 (run.1 - run.0) in
    ap₂ ◌++◌ (ap (range_with_len (run.0 * size)) (less_scaled size run.0 run.1 (omega arith)) ∙ places_in_row size run.0 (run.1 - run.0))
    (positions_scaled size runs (All-tail (λ (r : ℕ × ℕ). r.0 < r.1) run runs h))
    ∙ sym (flat_map-append (places_of size) rows (run_positions runs))

-- bits that are set in the runs of the elements are the selection's, repeated
repeated_bits : (size len : ℕ) (selection bits : List Bool) (runs : List (ℕ × ℕ)) → len ≡ length selection * size → All (λ run. run.0 < run.1) runs → run_positions runs ≡ set_of selection → length bits ≡ len → set_of bits ≡ run_positions (map (scaled_run size) runs) → bits ≡ repeat_bits size selection
repeated_bits size len selection bits runs e some cover long set =
    let places = set ∙ positions_scaled size runs some ∙ ap (flat_map (places_of size)) cover in
    let first : 0 * size ≡ 0 = omega arith in
    bits_told bits len (flat_map (places_of size) (set_of selection)) long places
    ∙ sym (bits_told (repeat_bits size selection) len (flat_map (places_of size) (set_of selection)) (length-repeated size selection ∙ sym e)
    (ap (λ k. positions k (repeat_bits size selection)) (sym first) ∙ positions_repeated size 0 selection))

-- a result's bits that are set in the runs of the elements are the selection's, repeated
pub repeated_told : {V E : Type 0} (r : Result V E) (bits : V → List Bool) (size len : ℕ) (selection : List Bool) (runs scaled : List (ℕ × ℕ)) → len ≡ length selection * size → All (λ run. run.0 < run.1) runs → run_positions runs ≡ set_of selection → scaled ≡ map (scaled_run size) runs → IfOk r (λ v. length (bits v) ≡ len) → IfOk r (λ v. set_of (bits v) ≡ run_positions scaled) → IfOk r (λ v. bits v ≡ repeat_bits size selection)
repeated_told (Ok v) bits size len selection runs scaled e some cover is long set = repeated_bits size len selection (bits v) runs e some cover long (set ∙ ap run_positions is)
repeated_told (Err x) bits size len selection runs scaled e some cover is long set = long

scaled_less : (size a b : ℕ) → 0 < size → a < b → a * size < b * size
scaled_less size a b some h =
    let whole : b ≡ a + 1 + (b - a - 1) = omega arith in
    let all : b * size ≡ a * size + size + (b - a - 1) * size = ap (λ n. n * size) whole ∙ apart (b - a - 1) in
    omega (arith, all)
  where
    apart : (d : ℕ) → (a + 1 + d) * size ≡ a * size + size + d * size
    apart d = omega arith

pub scaled_most : (size a b : ℕ) → a ≤ b → a * size ≤ b * size
scaled_most size a b h = let all = less_apart in omega (arith, all)
  where
    apart : (d : ℕ) → (a + d) * size ≡ a * size + d * size
    apart d = omega arith

    less_apart : b * size ≡ a * size + (b - a) * size
    less_apart = let whole : b ≡ a + (b - a) = omega arith in ap (λ n. n * size) whole ∙ apart (b - a)

-- the runs of the elements ascend as those of the lists do
pub scaled_ascend : (size low len : ℕ) (runs : List (ℕ × ℕ)) → 0 < size → All (λ run. run.0 < run.1) runs → ascending low len (run_positions runs) ≡ true → runs_ascend (low * size) (len * size) (map (scaled_run size) runs) ≡ true
scaled_ascend size low len [] some h up = refl
scaled_ascend size low len (run ∷ runs) some h up =
    let ordered : run.0 < run.1 = h 0 (0, 0) (omega arith) in
    let first = run_first_of low len run.0 (run.1 - run.0) (run_positions runs) (omega arith) up in
    let from = first.from in
    let within = first.within in
    let whole : run.0 + (run.1 - run.0) ≡ run.1 = omega arith in
    let rest = map (scaled_run size) runs in
    let start = run.0 * size in
    let end = run.1 * size in
    ap (λ b. b && (nat_lt start end && (nat_le end (len * size) && runs_ascend end (len * size) rest))) (le-leb (low * size) start (scaled_most size low run.0 from))
    ∙ ap (λ b. b && (nat_le end (len * size) && runs_ascend end (len * size) rest)) (lt-ltb start end (scaled_less size run.0 run.1 some ordered))
    ∙ ap (λ b. b && runs_ascend end (len * size) rest) (le-leb end (len * size) (scaled_most size run.1 len (omega arith)))
    ∙ scaled_ascend size run.1 len runs some (All-tail (λ (r : ℕ × ℕ). r.0 < r.1) run runs h) (subst (λ (k : ℕ). ascending k len (run_positions runs) ≡ true) whole first.then)

pub repeated_once : (bits : List Bool) → bits ≡ repeat_bits 1 bits
repeated_once [] = refl
repeated_once (b ∷ bits) = ap (λ l. b ∷ l) (repeated_once bits)

pub repeated_never : (bits : List Bool) → [] ≡ repeat_bits 0 bits
repeated_never [] = refl
repeated_never (b ∷ bits) = repeated_never bits

-- so they are those of a mask
pub scaled_faultless : (size rows len : ℕ) (selection : List Bool) (runs scaled : List (ℕ × ℕ)) → 0 < size → rows ≡ length selection → len ≡ rows * size → All (λ run. run.0 < run.1) runs → run_positions runs ≡ set_of selection → scaled ≡ map (scaled_run size) runs → slices_fault len scaled ≡ None
scaled_faultless size rows len selection runs scaled some r l h cover e =
    let none : 0 * size ≡ 0 = omega arith in
    let up = scaled_ascend size 0 rows runs some h (ap (ascending 0 rows) cover ∙ set_ascends selection rows (sym r)) in
    ap (λ b. cond b None (Some Slices)) (ap₂ (λ n l. runs_ascend 0 n l) l e ∙ ap (λ k. runs_ascend k (rows * size) (map (scaled_run size) runs)) (sym none) ∙ up)

-- runs that cover the set positions lie among the rows
pub runs_inside : (rows : ℕ) (selection : List Bool) (runs : List (ℕ × ℕ)) → rows ≡ length selection → All (λ run. run.0 < run.1) runs → run_positions runs ≡ set_of selection → All (λ run. run.1 ≤ rows) runs
runs_inside rows selection runs r h cover = runs_within 0 rows runs h (ap (ascending 0 rows) cover ∙ set_ascends selection rows (sym r))

-- ---- the lists, from the front

module _ {X : Type 0} (size : ℕ) where
  -- the lists of what is left of the elements
  abbrev cut_lists : ℕ → List X → List (List X)
  cut_lists zero elements = []
  cut_lists (suc n) elements = take size elements ∷ cut_lists n (drop size elements)

-- the lists from a start on
lists_from : {X : Type 0} (size start n : ℕ) (elements : List X) → map (items_in elements) (runs_from start size n) ≡ cut_lists size n (drop start elements)
lists_from size start zero elements = refl
lists_from size start (suc n) elements =
    let long : start + size - start ≡ size = omega arith in
    ap₂ ◌∷◌ (ap (λ k. take k (drop start elements)) long)
    (lists_from size (start + size) n elements ∙ ap (cut_lists size n) (sym (drop-drop size start elements)))

fixed_cut : {X : Type 0} (size n : ℕ) (elements : List X) → fixed_lists size n elements ≡ cut_lists size n elements
fixed_cut size n elements = lists_from size 0 n elements

-- one list in front
cut_front : {X : Type 0} (size n : ℕ) (front rest : List X) → size ≡ length front → cut_lists size (suc n) (front ++ rest) ≡ front ∷ cut_lists size n rest
cut_front size n front rest h = ap₂ (λ l r. l ∷ cut_lists size n r) (take_at front rest size (sym h)) (drop_at front rest size (sym h))

-- ---- a filter

kept_cut : {X : Type 0} (size : ℕ) (bits : List Bool) (elements : List X) → length bits * size ≡ length elements → cut_lists size (true_count_of bits) (items_where_true (repeat_bits size bits) elements) ≡ items_where_true bits (cut_lists size (length bits) elements)
kept_cut size [] elements h = refl
kept_cut {X = X} size (b ∷ bits) elements h =
    let rest = drop size elements in
    let more : suc (length bits) * size ≡ size + length bits * size = omega arith in
    let room : size ≤ length elements = omega (arith, more) in
    let left : length bits * size ≡ length rest = omega (arith, more, length-drop size elements) in
    let front : length (take size elements) ≡ size = length-take-le size elements room in
    let cut : items_where_true (repeat_bits size (b ∷ bits)) elements ≡ items_where_true (replicate size b) elements ++ items_where_true (repeat_bits size bits) rest =
    picked-append (replicate size b) (repeat_bits size bits) elements ∙ ap (λ k. items_where_true (replicate size b) elements ++ items_where_true (repeat_bits size bits) (drop k elements)) (length-replicate size b) in
    ap (cut_lists size (true_count_of (b ∷ bits))) cut ∙ by_first b rest front (kept_cut size bits rest left)
  where
    by_first : (b : Bool) (rest : List X) → length (take size elements) ≡ size → cut_lists size (true_count_of bits) (items_where_true (repeat_bits size bits) rest) ≡ items_where_true bits (cut_lists size (length bits) rest) → cut_lists size (true_count_of (b ∷ bits)) (items_where_true (replicate size b) elements ++ items_where_true (repeat_bits size bits) rest) ≡ items_where_true (b ∷ bits) (take size elements ∷ cut_lists size (length bits) rest)
    by_first true rest front same =
        let kept = items_where_true (repeat_bits size bits) rest in
        let count : true_count_of (true ∷ bits) ≡ suc (true_count_of bits) = omega (arith, true_count_of-cons true bits) in
        ap₂ (λ n l. cut_lists size n (l ++ kept)) count (picked_set size elements)
        ∙ cut_front size (true_count_of bits) (take size elements) kept (sym front)
        ∙ ap (λ l. take size elements ∷ l) same
    by_first false rest front same =
        let kept = items_where_true (repeat_bits size bits) rest in
        let count : true_count_of (false ∷ bits) ≡ true_count_of bits = omega (arith, true_count_of-cons false bits) in
        ap₂ (λ n l. cut_lists size n (l ++ kept)) count (sym (items_where_true-none size elements)) ∙ same

pub filters_fixed : {X : Type 0} (size : ℕ) (selection : List Bool) (elements : List X) → length selection * size ≡ length elements → fixed_lists size (true_count_of selection) (items_where_true (repeat_bits size selection) elements) ≡ items_where_true selection (fixed_lists size (length selection) elements)
filters_fixed size selection elements h =
    fixed_cut size (true_count_of selection) (items_where_true (repeat_bits size selection) elements)
    ∙ kept_cut size selection elements h
    ∙ ap (items_where_true selection) (sym (fixed_cut size (length selection) elements))

pub told_fixed : (size : ℕ) (selection bits : List Bool) → bits ≡ repeat_bits size selection → FiltersFixed size selection bits
told_fixed size selection bits e elements h =
    ap (λ l. fixed_lists size (true_count_of selection) (items_where_true l elements)) e ∙ filters_fixed size selection elements h

-- ---- a take

-- a picked run lies within the elements
pub fixed_inside : (size rows : ℕ) (pick : Option ℕ) → 0 < rows → IfSome pick (λ i. i < rows) → (fixed_run size pick).0 + (fixed_run size pick).1 ≤ rows * size
fixed_inside size rows None some h =
    let one : rows * size ≡ size + (rows - 1) * size = ap (λ n. n * size) (split rows some) ∙ apart in omega (arith, one)
  where
    split : (n : ℕ) → 0 < n → n ≡ 1 + (n - 1)
    split n p = omega arith

    apart : (1 + (rows - 1)) * size ≡ size + (rows - 1) * size
    apart = omega arith
fixed_inside size rows (Some i) some h =
    let most = scaled_most size (i + 1) rows (omega arith) in
    let next : (i + 1) * size ≡ i * size + size = omega arith in
    omega (arith, most, next)

fixed_all_inside : (size rows : ℕ) (picks : List (Option ℕ)) → 0 < rows → AreBelow picks rows → All (λ run. run.0 + run.1 ≤ rows * size) (map (fixed_run size) picks)
fixed_all_inside size rows [] some h = All-nil (λ (run : ℕ × ℕ). run.0 + run.1 ≤ rows * size)
fixed_all_inside size rows (pick ∷ picks) some h =
    All-cons (λ (run : ℕ × ℕ). run.0 + run.1 ≤ rows * size) (fixed_run size pick) (map (fixed_run size) picks)
    (fixed_inside size rows pick some (h 0 None (omega arith)))
    (fixed_all_inside size rows picks some (All-tail (λ (o : Option ℕ). IfSome o (λ p. p < rows)) pick picks h))

pub length-fixed : (size : ℕ) (picks : List (Option ℕ)) → length (run_places (map (fixed_run size) picks)) ≡ length picks * size
length-fixed size [] = omega arith
length-fixed size (pick ∷ picks) =
    let run = fixed_run size pick in
    length-append (range_with_len run.0 run.1) (run_places (map (fixed_run size) picks))
    ∙ ap₂ ◌+◌ (length-range_with_len run.0 run.1 ∙ long pick) (length-fixed size picks)
    ∙ step (length picks)
  where
    long : (o : Option ℕ) → (fixed_run size o).1 ≡ size
    long None = refl
    long (Some i) = refl

    step : (n : ℕ) → size + n * size ≡ suc n * size
    step n = omega arith

module _ {X : Type 0} (size rows : ℕ) (elements : List X) where
  -- the list at a pick
  list_at : (pick : Option ℕ) → IfSome pick (λ i. i < rows) → take (fixed_run size pick).1 (drop (fixed_run size pick).0 elements) ≡ item_at (slice_range elements 0 size) (fixed_lists size rows elements) pick
  list_at None h = let whole : size ≡ size - 0 = omega arith in ap (λ n. take n elements) whole
  list_at (Some i) h =
      let start = i * size in
      let there : i < length (runs_from 0 size rows) = omega (arith, length-runs_from 0 size rows) in
      let first : 0 + start ≡ start = omega arith in
      let long : start + size - start ≡ size = omega arith in
      sym (get_or-map (items_in elements) (runs_from 0 size rows) i (0, 0) (slice_range elements 0 size) there
      ∙ ap (items_in elements) (get_or-runs_from 0 size rows i h)
      ∙ ap (λ k. slice_range elements k (k + size)) first
      ∙ ap (λ k. take k (drop start elements)) long)

  taken_cut : (picks : List (Option ℕ)) → rows * size ≡ length elements → 0 < rows → AreBelow picks rows → cut_lists size (length picks) (in_runs elements (map (fixed_run size) picks)) ≡ at (slice_range elements 0 size) (fixed_lists size rows elements) picks
  taken_cut [] long some h = refl
  taken_cut (pick ∷ picks) long some h =
      let run = fixed_run size pick in
      let below : IfSome pick (λ i. i < rows) = h 0 None (omega arith) in
      let inside = fixed_inside size rows pick some below in
      let rest = in_runs elements (map (fixed_run size) picks) in
      let front : length (take run.1 (drop run.0 elements)) ≡ run.1 = length-take-le run.1 (drop run.0 elements) (omega (arith, inside, length-drop run.0 elements)) in
      cut_front size (length picks) (take run.1 (drop run.0 elements)) rest (sym (front ∙ same pick))
      ∙ ap₂ ◌∷◌ (list_at pick below) (taken_cut picks long some (All-tail (λ (o : Option ℕ). IfSome o (λ p. p < rows)) pick picks h))
    where
      same : (o : Option ℕ) → (fixed_run size o).1 ≡ size
      same None = refl
      same (Some i) = refl

pub takes_fixed : (size rows : ℕ) (picks : List (Option ℕ)) (runs : List (ℕ × ℕ)) → 0 < rows → AreBelow picks rows → run_places runs ≡ run_places (map (fixed_run size) picks) → All (λ run. run.0 + run.1 ≤ rows * size) runs → TakesFixed size rows picks runs
takes_fixed size rows picks runs some below places inside elements long =
    let within : All (λ run. run.0 + run.1 ≤ length elements) runs = subst (λ (n : ℕ). All (λ run. run.0 + run.1 ≤ n) runs) long inside in
    let picked_in : All (λ run. run.0 + run.1 ≤ length elements) (map (fixed_run size) picks) = subst (λ (n : ℕ). All (λ run. run.0 + run.1 ≤ n) (map (fixed_run size) picks)) long (fixed_all_inside size rows picks some below) in
    ap (fixed_lists size (length picks)) (same_places elements runs (map (fixed_run size) picks) within picked_in places)
    ∙ fixed_cut size (length picks) (in_runs elements (map (fixed_run size) picks))
    ∙ taken_cut size rows elements picks long some below

pub length-fixed_runs : (size : ℕ) (picks : List (Option ℕ)) (runs : List (ℕ × ℕ)) → run_places runs ≡ run_places (map (fixed_run size) picks) → sum_by (λ run. run.1) runs + 0 ≡ length picks * size
length-fixed_runs size picks runs places = omega (arith, length-places runs, ap length places, length-fixed size picks)

-- ---- columns that are made of what is left

length-places_of : (size : ℕ) (rows : List ℕ) → length (flat_map (places_of size) rows) ≡ length rows * size
length-places_of size [] = omega arith
length-places_of size (i ∷ rows) =
    length-append (range_with_len (i * size) size) (flat_map (places_of size) rows)
    ∙ ap₂ ◌+◌ (length-range_with_len (i * size) size) (length-places_of size rows)
    ∙ step (length rows)
  where
    step : (n : ℕ) → size + n * size ≡ suc n * size
    step n = omega arith

count-repeated : (size : ℕ) (bits : List Bool) → true_count_of (repeat_bits size bits) ≡ true_count_of bits * size
count-repeated size bits =
    let first : 0 * size ≡ 0 = omega arith in
    sym (length-positions 0 (repeat_bits size bits))
    ∙ ap (λ k. length (positions k (repeat_bits size bits))) (sym first)
    ∙ ap length (positions_repeated size 0 bits)
    ∙ length-places_of size (set_of bits)
    ∙ ap (λ n. n * size) (length-positions 0 bits)

made_fixed : (size len : ℕ) (v : Valid) (left : List RowValue) (lists : List (List RowValue)) → length left ≡ len * size → is_fitting v len ≡ true → fixed_lists size len left ≡ lists → MakesFixed size len v left lists
made_fixed size len v left lists long fits made e rows = (
  sound (length e.rows == size * len) (is_fitting v len) (alike (length e.rows) (size * len) (ap length rows ∙ long ∙ mul_comm len size)) fits,
  ap (λ (l : List RowValue). map (items_in l) (runs_from 0 size len)) rows ∙ made,
)
  where
    alike : (a b : ℕ) → a ≡ b → (a == b) ≡ true
    alike a b h = grind (arith, nat_tests)

    sound : (a b : Bool) → a ≡ true → b ≡ true → (if a then (if b then None else Some BadValidity) else Some WrongLength) ≡ None
    sound true true h k = refl
    sound true false h k = cc
    sound false b h k = cc

pub fixed_filtered : (p : FixedParts) (bits kept : List Bool) (v : Valid) → fixed_fault p ≡ None → length bits ≡ p.len → is_fitting v (true_count_of bits) ≡ true → kept ≡ repeat_bits p.size bits → MakesFixed p.size (true_count_of bits) v (items_where_true kept p.elements.rows) (items_where_true bits (lists_of (fixed_spans p)))
fixed_filtered p bits kept v h long fits e =
    let rows = p.elements.rows in
    let count : length bits * p.size ≡ length rows = ap (λ n. n * p.size) long ∙ mul_comm p.len p.size ∙ sym (elements-fixed p h) in
    let same : length (repeat_bits p.size bits) ≡ length rows = length-repeated p.size bits ∙ count in
    made_fixed p.size (true_count_of bits) v (items_where_true kept rows) (items_where_true bits (lists_of (fixed_spans p)))
    (ap (λ b. length (items_where_true b rows)) e ∙ length-items_where_true (repeat_bits p.size bits) rows same ∙ count-repeated p.size bits)
    fits
    (told_fixed p.size bits kept e rows count ∙ ap (λ n. items_where_true bits (fixed_lists p.size n rows)) long)

length-in_runs : {X : Type 0} (items : List X) (runs : List (ℕ × ℕ)) → All (λ run. run.0 + run.1 ≤ length items) runs → length (in_runs items runs) ≡ sum_by (λ run. run.1) runs
length-in_runs items [] h = refl
length-in_runs items (run ∷ runs) h =
    let inside : run.0 + run.1 ≤ length items = h 0 (0, 0) (omega arith) in
    let front = length-take-le run.1 (drop run.0 items) (omega (arith, inside, length-drop run.0 items)) in
    let rest = length-in_runs items runs (All-tail (λ (r : ℕ × ℕ). r.0 + r.1 ≤ length items) run runs h) in
    length-append (take run.1 (drop run.0 items)) (in_runs items runs) ∙ omega (arith, front, rest, sum_by-cons (λ (r : ℕ × ℕ). r.1) run runs)

pub fixed_taken : (p : FixedParts) (picks : List (Option ℕ)) (runs : List (ℕ × ℕ)) (filler : ℕ) (v : Valid) → fixed_fault p ≡ None → is_fitting v (length picks) ≡ true → TakesFixed p.size p.len picks runs → sum_by (λ run. run.1) runs + filler ≡ length picks * p.size → filler ≡ 0 → All (λ run. run.0 + run.1 ≤ length p.elements.rows) runs → MakesFixed p.size (length picks) v (in_runs p.elements.rows runs) (at (slice_range p.elements.rows 0 p.size) (lists_of (fixed_spans p)) picks)
fixed_taken p picks runs filler v h fits takes many none inside =
    let rows = p.elements.rows in
    made_fixed p.size (length picks) v (in_runs rows runs) (at (slice_range rows 0 p.size) (lists_of (fixed_spans p)) picks)
    (omega (arith, length-in_runs rows runs inside, many, none)) fits
    (takes rows (mul_comm p.len p.size ∙ sym (elements-fixed p h)))

replicate-add : {X : Type 0} (m n : ℕ) (x : X) → replicate (m + n) x ≡ replicate m x ++ replicate n x
replicate-add zero n x = let none : 0 + n ≡ n = omega arith in ap (λ k. replicate k x) none
replicate-add (suc m) n x = let more : suc m + n ≡ suc (m + n) = omega arith in ap (λ k. replicate k x) more ∙ ap (λ l. x ∷ l) (replicate-add m n x)

cut_filler : {X : Type 0} (size n : ℕ) (x : X) → cut_lists size n (replicate (n * size) x) ≡ replicate n (replicate size x)
cut_filler size zero x = refl
cut_filler size (suc n) x =
    let more : suc n * size ≡ size + n * size = omega arith in
    ap (cut_lists size (suc n)) (ap (λ k. replicate k x) more ∙ replicate-add size (n * size) x)
    ∙ cut_front size n (replicate size x) (replicate (n * size) x) (sym (length-replicate size x))
    ∙ ap (λ l. replicate size x ∷ l) (cut_filler size n x)

at_nothing : {X : Type 0} (missing : X) (picks : List (Option ℕ)) → replicate (length picks) missing ≡ at missing [] picks
at_nothing missing [] = refl
at_nothing missing (None ∷ picks) = ap (λ l. missing ∷ l) (at_nothing missing picks)
at_nothing missing (Some i ∷ picks) = ap (λ l. missing ∷ l) (at_nothing missing picks)

pub fixed_filled : (p : FixedParts) (picks : List (Option ℕ)) (runs : List (ℕ × ℕ)) (filler : ℕ) (v : Valid) → p.len ≡ 0 → is_fitting v (length picks) ≡ true → sum_by (λ run. run.1) runs + filler ≡ length picks * p.size → runs ≡ [] → (x : RowValue) → MakesFixed p.size (length picks) v (replicate filler x) (at (replicate p.size x) (lists_of (fixed_spans p)) picks)
fixed_filled p picks runs filler v empty fits many none x =
    let all : filler ≡ length picks * p.size = omega (arith, many, ap (sum_by (λ (r : ℕ × ℕ). r.1)) none) in
    made_fixed p.size (length picks) v (replicate filler x) (at (replicate p.size x) (lists_of (fixed_spans p)) picks)
    (length-replicate filler x ∙ all) fits
    (ap (λ k. fixed_lists p.size (length picks) (replicate k x)) all
    ∙ fixed_cut p.size (length picks) (replicate (length picks * p.size) x)
    ∙ cut_filler p.size (length picks) x
    ∙ at_nothing (replicate p.size x) picks
    ∙ ap (λ n. at (replicate p.size x) (map (items_in p.elements.rows) (runs_from 0 p.size n)) picks) (sym empty))

-- runs of the lists are runs of the elements
pub fixed_within : (p : FixedParts) (size rows : ℕ) (runs : List (ℕ × ℕ)) → fixed_fault p ≡ None → size ≡ p.size → rows ≡ p.len → All (λ run. run.0 + run.1 ≤ rows * size) runs → All (λ run. run.0 + run.1 ≤ length p.elements.rows) runs
fixed_within p size rows runs h e f inside =
    subst (λ (n : ℕ). All (λ run. run.0 + run.1 ≤ n) runs) (ap₂ (λ a b. a * b) f e ∙ mul_comm p.len p.size ∙ sym (elements-fixed p h)) inside
