-- What a take leaves of lists.
use Rattle.std.proofs.Common.{◌≡◌, ℕ, zero, suc, ◌+◌, ◌<◌, ◌≤◌, Bool, true, false, cond, List, [], ◌∷◌, ◌++◌, length, get_or, map, take, drop, replicate, None, Some, Option, refl, sym, ap, ap₂, subst, ◌∙◌, Ok, Err, Result, IfOk, add-one, arith, append_assoc}
use Rattle.std.specs.Prelude.{IfSome}
use Rattle.std.specs.List.{All, range_with_len, slice_get, sum_by}
use Rattle.std.proofs.lemmas.List.{get_or-map, length-append, length-map, map-append, take_all, take_more}
use Rattle.std.proofs.lemmas.List.Elements.{All-cons, All-nil, All-tail}
use Rattle.std.proofs.lemmas.List.FromFn.{length-range_with_len}
use Rattle.std.proofs.lemmas.List.Sums.{sum_by-cons, sum_by_push}
use Rattle.vx_bits.specs.BitBuffer.{PlacedBits}
use Rattle.vx_take.specs.Picks.{AreBelow, at, in_runs, item_at, run_places}
use Rattle.vx_offsets.specs.Offsets.{items_in, lists_at}
use Rattle.vx_lists.specs.Lists.{AreOffsets, last_offset, row_count, span_at}
use Rattle.vx_lists.specs.Sums.{concat_lists, offsets_of, sums_from}
use Rattle.vx_lists.specs.Takes.{IsListTake, TakesLists, picked_length, picked_run, shown_by, shown_picks}
use Rattle.vx_lists.proofs.Joined.{cut_again, length_row, row_of, sums_more}
use Rattle.vx_lists.proofs.Spans.{spans_of_rows}
use Rattle.vx_lemmas.proofs.Lists.{range_split}
use Rattle.vx_lemmas.proofs.Picked.{cut_picked, same_items}

-- ---- the picks that are shown

pub length-shown : (present : List Bool) (picks : List (Option ℕ)) → length present ≡ length picks → length (shown_picks present picks) ≡ length picks
length-shown [] [] h = refl
length-shown [] (p ∷ picks) h = absurd (omega arith)
length-shown (b ∷ present) [] h = absurd (omega arith)
length-shown (b ∷ present) (p ∷ picks) h = ap suc (length-shown present picks (omega arith))

pub length-shown_by : (present : Option PlacedBits) (picks : List (Option ℕ)) → IfSome present (λ b. length b.bits ≡ length picks) → length (shown_by present picks) ≡ length picks
length-shown_by None picks h = refl
length-shown_by (Some present) picks h = length-shown present.bits picks h

pub get_or-shown : (present : List Bool) (picks : List (Option ℕ)) (k : ℕ) → length present ≡ length picks → get_or (shown_picks present picks) k None ≡ cond (get_or present k false) (get_or picks k None) None
get_or-shown [] [] k h = refl
get_or-shown [] (p ∷ picks) k h = absurd (omega arith)
get_or-shown (b ∷ present) [] k h = absurd (omega arith)
get_or-shown (b ∷ present) (p ∷ picks) zero h = refl
get_or-shown (b ∷ present) (p ∷ picks) (suc k) h = get_or-shown present picks k (omega arith)

pub all_shown : (n : ℕ) (picks : List (Option ℕ)) → n ≡ length picks → shown_picks (replicate n true) picks ≡ picks
all_shown zero [] h = refl
all_shown zero (p ∷ picks) h = absurd (omega arith)
all_shown (suc n) [] h = absurd (omega arith)
all_shown (suc n) (p ∷ picks) h = ap (λ l. p ∷ l) (all_shown n picks (omega arith))

pub none_shown : (n : ℕ) (picks : List (Option ℕ)) → n ≡ length picks → shown_picks (replicate n false) picks ≡ replicate n None
none_shown zero [] h = refl
none_shown zero (p ∷ picks) h = absurd (omega arith)
none_shown (suc n) [] h = absurd (omega arith)
none_shown (suc n) (p ∷ picks) h = ap (λ l. None ∷ l) (none_shown n picks (omega arith))

shown_one : (b : Bool) (pick : Option ℕ) (bound : ℕ) → IfSome pick (λ p. p < bound) → IfSome (cond b pick None) (λ p. p < bound)
shown_one true pick bound h = h
shown_one false pick bound h = tt

pub shown_below : (present : List Bool) (picks : List (Option ℕ)) (bound : ℕ) → AreBelow picks bound → AreBelow (shown_picks present picks) bound
shown_below [] picks bound h = All-nil (λ (o : Option ℕ). IfSome o (λ p. p < bound))
shown_below (b ∷ present) [] bound h = All-nil (λ (o : Option ℕ). IfSome o (λ p. p < bound))
shown_below (b ∷ present) (pick ∷ picks) bound h =
    All-cons (λ (o : Option ℕ). IfSome o (λ p. p < bound)) (cond b pick None) (shown_picks present picks)
    (shown_one b pick bound (h 0 None (omega arith)))
    (shown_below present picks bound (All-tail (λ (o : Option ℕ). IfSome o (λ p. p < bound)) pick picks h))

less_below : (pick : Option ℕ) (bound rows : ℕ) → bound ≤ rows → IfSome pick (λ p. p < bound) → IfSome pick (λ p. p < rows)
less_below None bound rows h p = tt
less_below (Some i) bound rows h p = omega arith

pub below_more : (picks : List (Option ℕ)) (bound rows : ℕ) → bound ≤ rows → AreBelow picks bound → AreBelow picks rows
below_more picks bound rows h below k d l = less_below (get_or picks k d) bound rows h (below k d l)

-- picks that are shown are rows
pub rows_shown : (present : List Bool) (picks : List (Option ℕ)) (bound rows : ℕ) → bound ≤ rows → AreBelow picks bound → AreBelow (shown_picks present picks) rows
rows_shown present picks bound rows h below = below_more (shown_picks present picks) bound rows h (shown_below present picks bound below)

-- ---- runs by their places

pub places_more : (runs : List (ℕ × ℕ)) (run : ℕ × ℕ) → run_places (runs ++ run ∷ []) ≡ run_places runs ++ range_with_len run.0 run.1
places_more [] run = append_nil (range_with_len run.0 run.1)
  where
    append_nil : (xs : List ℕ) → xs ++ [] ≡ xs
    append_nil [] = refl
    append_nil (x ∷ xs) = ap (λ l. x ∷ l) (append_nil xs)
places_more (r ∷ runs) run = ap (λ l. range_with_len r.0 r.1 ++ l) (places_more runs run) ∙ sym (append_assoc (range_with_len r.0 r.1) (run_places runs) (range_with_len run.0 run.1))

-- a run and the one that begins at its end
pub places_joined : (runs : List (ℕ × ℕ)) (start n next m : ℕ) → start + n ≡ next → run_places (runs ++ (start, n + m) ∷ []) ≡ run_places (runs ++ (start, n) ∷ []) ++ range_with_len next m
places_joined runs start n next m h =
    places_more runs (start, n + m)
    ∙ ap (λ l. run_places runs ++ l) (range_split start n m ∙ ap (λ a. range_with_len start n ++ range_with_len a m) h)
    ∙ sym (append_assoc (run_places runs) (range_with_len start n) (range_with_len next m))
    ∙ ap (λ l. l ++ range_with_len next m) (sym (places_more runs (start, n)))

pub length-places : (runs : List (ℕ × ℕ)) → length (run_places runs) ≡ sum_by (λ run. run.1) runs
length-places [] = refl
length-places (run ∷ runs) =
    length-append (range_with_len run.0 run.1) (run_places runs)
    ∙ ap₂ ◌+◌ (length-range_with_len run.0 run.1) (length-places runs)
    ∙ sym (sum_by-cons (λ (r : ℕ × ℕ). r.1) run runs)

module _ {X : Type 0} where
  -- the items of runs are those at their places
  items_at_places : (items : List X) (runs : List (ℕ × ℕ)) → All (λ run. run.0 + run.1 ≤ length items) runs → map Some (in_runs items runs) ≡ map (slice_get items) (run_places runs)
  items_at_places items [] h = refl
  items_at_places items (run ∷ runs) h =
      let cut = take run.1 (drop run.0 items) in
      map-append Some cut (in_runs items runs)
      ∙ ap₂ ◌++◌ (cut_picked items run.0 run.1 (h 0 (0, 0) (omega arith))) (items_at_places items runs (All-tail (λ (r : ℕ × ℕ). r.0 + r.1 ≤ length items) run runs h))
      ∙ sym (map-append (slice_get items) (range_with_len run.0 run.1) (run_places runs))

  -- so runs with the same places have the same items
  pub same_places : (items : List X) (runs others : List (ℕ × ℕ)) → All (λ run. run.0 + run.1 ≤ length items) runs → All (λ run. run.0 + run.1 ≤ length items) others → run_places runs ≡ run_places others → in_runs items runs ≡ in_runs items others
  same_places items runs others h k e =
      same_items (in_runs items runs) (in_runs items others) (items_at_places items runs h ∙ ap (map (slice_get items)) e ∙ sym (items_at_places items others k))

pub All-more : {X : Type 0} (P : X → Type 0) (xs : List X) (x : X) → All P xs → P x → All P (xs ++ x ∷ [])
All-more P [] x h p = All-cons P x [] p (All-nil P)
All-more P (y ∷ xs) x h p = All-cons P y (xs ++ x ∷ []) (h 0 y (omega arith)) (All-more P xs x (All-tail P y xs h) p)

-- another last one
pub All-changed : {X : Type 0} (P : X → Type 0) (xs : List X) (x y : X) → All P (xs ++ x ∷ []) → P y → All P (xs ++ y ∷ [])
All-changed P [] x y h p = All-cons P y [] p (All-nil P)
All-changed P (z ∷ xs) x y h p = All-cons P z (xs ++ y ∷ []) (h 0 z (omega arith)) (All-changed P xs x y (All-tail P z (xs ++ x ∷ []) h) p)

-- ---- the picked lists

module _ {X : Type 0} (offsets : List ℕ) (items : List X) where
  -- the picked list
  abbrev pub picked_items : Option ℕ → List X
  picked_items None = []
  picked_items (Some i) = items_in items (span_at offsets i)

  picked : (pick : Option ℕ) → IfSome pick (λ i. i < row_count offsets) → item_at [] (lists_at offsets items) pick ≡ picked_items pick
  picked None h = refl
  picked (Some i) h =
      let rows = range_with_len 0 (row_count offsets) in
      let there : i < length rows = omega (arith, length-range_with_len 0 (row_count offsets)) in
      let long : i < length (map (span_at offsets) rows) = omega (arith, length-map rows (span_at offsets)) in
      ap (λ l. get_or (map (items_in items) l) i []) (spans_of_rows offsets)
      ∙ get_or-map (items_in items) (map (span_at offsets) rows) i (0, 0) [] long
      ∙ ap (items_in items) (get_or-map (span_at offsets) rows i 0 (0, 0) there ∙ ap (span_at offsets) (place 0 (row_count offsets) i h ∙ none i))
    where
      none : (k : ℕ) → 0 + k ≡ k
      none k = omega arith

      place : (a n k : ℕ) → k < n → get_or (range_with_len a n) k 0 ≡ a + k
      place a zero k h = absurd (omega arith)
      place a (suc n) zero h = omega arith
      place a (suc n) (suc k) h = let next : a + 1 + k ≡ a + suc k = omega arith in place (a + 1) n k (omega arith) ∙ next

  pub picked_lists : (picks : List (Option ℕ)) → AreBelow picks (row_count offsets) → at [] (lists_at offsets items) picks ≡ map picked_items picks
  picked_lists [] h = refl
  picked_lists (pick ∷ picks) h = ap₂ ◌∷◌ (picked pick (h 0 None (omega arith))) (picked_lists picks (All-tail (λ (o : Option ℕ). IfSome o (λ p. p < row_count offsets)) pick picks h))

  -- the items of the picked runs are the picked lists, joined
  pub picked_joined : (picks : List (Option ℕ)) → in_runs items (map (picked_run offsets) picks) ≡ concat_lists (map picked_items picks)
  picked_joined [] = refl
  picked_joined (None ∷ picks) = picked_joined picks
  picked_joined (Some i ∷ picks) = ap (λ l. items_in items (span_at offsets i) ++ l) (picked_joined picks)

  length_picked : (pick : Option ℕ) → AreOffsets offsets → IfSome pick (λ i. i < row_count offsets) → last_offset offsets ≤ length items → length (picked_items pick) ≡ picked_length offsets pick
  length_picked None are h long = refl
  length_picked (Some i) are h long = length_row offsets items i (row_of offsets i are h) long

  pub lengths_picked : (picks : List (Option ℕ)) → AreOffsets offsets → AreBelow picks (row_count offsets) → last_offset offsets ≤ length items → map length (map picked_items picks) ≡ map (picked_length offsets) picks
  lengths_picked [] are h long = refl
  lengths_picked (pick ∷ picks) are h long = ap₂ ◌∷◌ (length_picked pick are (h 0 None (omega arith)) long) (lengths_picked picks are (All-tail (λ (o : Option ℕ). IfSome o (λ p. p < row_count offsets)) pick picks h) long)

-- a picked run lies within the elements
pub picked_inside : (offsets : List ℕ) (pick : Option ℕ) → AreOffsets offsets → IfSome pick (λ i. i < row_count offsets) → (picked_run offsets pick).0 + (picked_run offsets pick).1 ≤ last_offset offsets
picked_inside offsets None are h = omega arith
picked_inside offsets (Some i) are h =
    let row = row_of offsets i are h in
    let ordered = row.ordered in
    let within = row.within in
    omega arith

picked_all_inside : (offsets : List ℕ) (picks : List (Option ℕ)) → AreOffsets offsets → AreBelow picks (row_count offsets) → All (λ run. run.0 + run.1 ≤ last_offset offsets) (map (picked_run offsets) picks)
picked_all_inside offsets [] are h = All-nil (λ (run : ℕ × ℕ). run.0 + run.1 ≤ last_offset offsets)
picked_all_inside offsets (pick ∷ picks) are h =
    All-cons (λ (run : ℕ × ℕ). run.0 + run.1 ≤ last_offset offsets) (picked_run offsets pick) (map (picked_run offsets) picks)
    (picked_inside offsets pick are (h 0 None (omega arith)))
    (picked_all_inside offsets picks are (All-tail (λ (o : Option ℕ). IfSome o (λ p. p < row_count offsets)) pick picks h))

-- ---- a take, pick by pick

-- what was put out for these picks: the sums, the runs and the last one
pub record AreTaken (offsets : List ℕ) (picks : List (Option ℕ)) (put : List ℕ) (total : ℕ) (runs : List (ℕ × ℕ)) (last : ℕ × ℕ) : Type 0 where
  pub sums : put ≡ offsets_of (map (picked_length offsets) picks)
  pub all : total ≡ sum_by (picked_length offsets) picks
  pub places : run_places (runs ++ last ∷ []) ≡ run_places (map (picked_run offsets) picks)
  pub inside : All (λ run. run.0 + run.1 ≤ last_offset offsets) (runs ++ last ∷ [])

-- nothing yet
pub none_taken : (offsets sums : List ℕ) → sums ≡ 0 ∷ [] → AreTaken offsets [] sums 0 [] (0, 0)
none_taken offsets sums e = record {
  sums = e;
  all = refl;
  places = refl;
  inside = All-cons (λ (run : ℕ × ℕ). run.0 + run.1 ≤ last_offset offsets) (0, 0) [] (omega arith) (All-nil (λ (run : ℕ × ℕ). run.0 + run.1 ≤ last_offset offsets));
}

-- one more pick
taken_more : (offsets : List ℕ) (picks : List (Option ℕ)) (pick : Option ℕ) (old new : List ℕ) (total sum : ℕ) (runs next : List (ℕ × ℕ)) (last run end : ℕ × ℕ) → run ≡ picked_run offsets pick → run.1 ≡ picked_length offsets pick → sum ≡ total + run.1 → new ≡ old ++ sum ∷ [] → run_places (next ++ end ∷ []) ≡ run_places (runs ++ last ∷ []) ++ range_with_len run.0 run.1 → All (λ r. r.0 + r.1 ≤ last_offset offsets) (next ++ end ∷ []) → AreTaken offsets picks old total runs last → AreTaken offsets (picks ++ pick ∷ []) new sum next end
taken_more offsets picks pick old new total sum runs next last run end is long e f g inside v =
    let length_of = picked_length offsets in
    let whole : sum ≡ 0 + sum_by length_of picks + length_of pick = omega (arith, e, long, v.all) in
    record {
      sums = f ∙ ap₂ (λ l n. l ++ n ∷ []) v.sums whole ∙ ap (λ l. 0 ∷ l) (sym (sums_more length_of 0 picks pick));
      all = omega (arith, e, long, v.all, sum_by_push length_of picks pick);
      places = g ∙ ap₂ (λ l (r : ℕ × ℕ). l ++ range_with_len r.0 r.1) v.places is ∙ sym (places_more (map (picked_run offsets) picks) (picked_run offsets pick)) ∙ ap run_places (sym (map-append (picked_run offsets) picks (pick ∷ [])));
      inside = inside;
    }

pub pick_taken : (offsets : List ℕ) (shown : List (Option ℕ)) (k : ℕ) (pick : Option ℕ) (old new : List ℕ) (total sum : ℕ) (runs next : List (ℕ × ℕ)) (last run end : ℕ × ℕ) → k < length shown → pick ≡ get_or shown k None → run ≡ picked_run offsets pick → run.1 ≡ picked_length offsets pick → sum ≡ total + run.1 → new ≡ old ++ sum ∷ [] → run_places (next ++ end ∷ []) ≡ run_places (runs ++ last ∷ []) ++ range_with_len run.0 run.1 → All (λ r. r.0 + r.1 ≤ last_offset offsets) (next ++ end ∷ []) → AreTaken offsets (take k shown) old total runs last → AreTaken offsets (take (k + 1) shown) new sum next end
pick_taken offsets shown k pick old new total sum runs next last run end h at is long e f g inside v =
    let more = ap (λ o. take k shown ++ o ∷ []) at ∙ sym (take_more shown k None h) in
    subst (λ (l : List (Option ℕ)). AreTaken offsets l new sum next end) more (taken_more offsets (take k shown) pick old new total sum runs next last run end is long e f g inside v)

-- all picks
pub taken_all : (offsets : List ℕ) (shown : List (Option ℕ)) (k : ℕ) (sums : List ℕ) (total : ℕ) (runs all : List (ℕ × ℕ)) (last : ℕ × ℕ) → length shown ≤ k → run_places all ≡ run_places (runs ++ last ∷ []) → ((n : ℕ) → All (λ r. r.0 + r.1 ≤ n) (runs ++ last ∷ []) → All (λ r. r.0 + r.1 ≤ n) all) → AreTaken offsets (take k shown) sums total runs last → IsListTake offsets shown sums all
taken_all offsets shown k sums total runs all last h e inside v =
    let whole = take_all k shown h in
    record {
      sums = v.sums ∙ ap (λ l. offsets_of (map (picked_length offsets) l)) whole;
      places = e ∙ v.places ∙ ap (λ l. run_places (map (picked_run offsets) l)) whole;
      inside = inside (last_offset offsets) v.inside;
    }

-- ---- what a take tells

-- the last sum is that of all lengths
last_sum : (start : ℕ) (lengths : List ℕ) → last_offset (start ∷ sums_from start lengths) ≡ start + sum_by (λ n. n) lengths
last_sum start [] = omega arith
last_sum start (n ∷ lengths) =
    let rest = sums_from (start + n) lengths in
    let at : row_count (start ∷ (start + n) ∷ rest) ≡ suc (row_count ((start + n) ∷ rest)) = omega arith in
    ap (λ k. get_or (start ∷ (start + n) ∷ rest) k 0) at ∙ last_sum (start + n) lengths ∙ omega (arith, sum_by-cons (λ (k : ℕ). k) n lengths)

sum_picked : (offsets : List ℕ) (picks : List (Option ℕ)) → length (run_places (map (picked_run offsets) picks)) ≡ sum_by (λ n. n) (map (picked_length offsets) picks)
sum_picked offsets [] = refl
sum_picked offsets (pick ∷ picks) =
    let run = picked_run offsets pick in
    length-append (range_with_len run.0 run.1) (run_places (map (picked_run offsets) picks))
    ∙ ap₂ ◌+◌ (length-range_with_len run.0 run.1 ∙ long pick) (sum_picked offsets picks)
    ∙ sym (sum_by-cons (λ (k : ℕ). k) (picked_length offsets pick) (map (picked_length offsets) picks))
  where
    long : (o : Option ℕ) → (picked_run offsets o).1 ≡ picked_length offsets o
    long None = refl
    long (Some i) = refl

-- the elements of the runs are the picked lists, joined
pub runs_joined : {X : Type 0} (offsets : List ℕ) (items : List X) (picks : List (Option ℕ)) (sums : List ℕ) (runs : List (ℕ × ℕ)) → AreOffsets offsets → AreBelow picks (row_count offsets) → last_offset offsets ≤ length items → IsListTake offsets picks sums runs → in_runs items runs ≡ concat_lists (map (picked_items offsets items) picks)
runs_joined offsets items picks sums runs are below long v =
    let inside : All (λ run. run.0 + run.1 ≤ length items) runs = λ k d p. let one : (get_or runs k d).0 + (get_or runs k d).1 ≤ last_offset offsets = v.inside k d p in omega arith in
    let picked_in = picked_all_inside offsets picks are below in
    let within : All (λ run. run.0 + run.1 ≤ length items) (map (picked_run offsets) picks) = λ k d p. let one : (get_or (map (picked_run offsets) picks) k d).0 + (get_or (map (picked_run offsets) picks) k d).1 ≤ last_offset offsets = picked_in k d p in omega arith in
    same_places items runs (map (picked_run offsets) picks) inside within v.places ∙ picked_joined offsets items picks

pub lists_taken : (offsets : List ℕ) (picks : List (Option ℕ)) (sums : List ℕ) (runs : List (ℕ × ℕ)) → AreOffsets offsets → AreBelow picks (row_count offsets) → IsListTake offsets picks sums runs → TakesLists offsets picks sums runs
lists_taken offsets picks sums runs are below v items long =
    ap₂ lists_at (v.sums ∙ ap offsets_of (sym (lengths_picked offsets items picks are below long))) (runs_joined offsets items picks sums runs are below long v)
    ∙ cut_again (map (picked_items offsets items) picks)
    ∙ sym (picked_lists offsets items picks below)

pub elements_taken : (offsets : List ℕ) (picks : List (Option ℕ)) (sums : List ℕ) (runs : List (ℕ × ℕ)) → IsListTake offsets picks sums runs → sum_by (λ run. run.1) runs ≡ last_offset sums
elements_taken offsets picks sums runs v =
    sym (length-places runs) ∙ ap length v.places ∙ sum_picked offsets picks
    ∙ sym (ap last_offset v.sums ∙ last_sum 0 (map (picked_length offsets) picks) ∙ omega arith)

-- ---- by the valid rows

pub take_all_there : (offsets : List ℕ) (n : ℕ) (picks : List (Option ℕ)) (sums : List ℕ) (runs : List (ℕ × ℕ)) → n ≡ length picks → IsListTake offsets picks sums runs → IsListTake offsets (shown_picks (replicate n true) picks) sums runs
take_all_there offsets n picks sums runs h v = subst (λ (l : List (Option ℕ)). IsListTake offsets l sums runs) (sym (all_shown n picks h)) v

zeros_summed : (offsets : List ℕ) (n : ℕ) → replicate (suc n) 0 ≡ offsets_of (map (picked_length offsets) (replicate n None))
zeros_summed offsets n = ap (λ l. 0 ∷ l) (zeros n)
  where
    zeros : (n : ℕ) → replicate n 0 ≡ sums_from 0 (map (picked_length offsets) (replicate n None))
    zeros zero = refl
    zeros (suc n) = ap (λ l. 0 ∷ l) (zeros n)

no_places : (offsets : List ℕ) (n : ℕ) → [] ≡ run_places (map (picked_run offsets) (replicate n None))
no_places offsets zero = refl
no_places offsets (suc n) = no_places offsets n

take_none_there : (offsets : List ℕ) (n : ℕ) (picks : List (Option ℕ)) (sums : List ℕ) (runs : List (ℕ × ℕ)) → n ≡ length picks → sums ≡ replicate (n + 1) 0 → runs ≡ [] → IsListTake offsets (shown_picks (replicate n false) picks) sums runs
take_none_there offsets n picks sums runs h e f =
    let whole : IsListTake offsets (replicate n None) sums runs = record {
      sums = e ∙ ap (λ k. replicate k 0) (add-one n) ∙ zeros_summed offsets n;
      places = ap run_places f ∙ no_places offsets n;
      inside = subst (λ (l : List (ℕ × ℕ)). All (λ run. run.0 + run.1 ≤ last_offset offsets) l) (sym f) (All-nil (λ (run : ℕ × ℕ). run.0 + run.1 ≤ last_offset offsets));
    } in
    subst (λ (l : List (Option ℕ)). IsListTake offsets l sums runs) (sym (none_shown n picks h)) whole

-- a result of no elements is a take where no row is there
pub ok_none_there : {V E : Type 0} (r : Result V E) (sums : V → List ℕ) (runs : V → List (ℕ × ℕ)) (offsets : List ℕ) (n : ℕ) (picks : List (Option ℕ)) → n ≡ length picks → IfOk r (λ v. sums v ≡ replicate (n + 1) 0) → IfOk r (λ v. runs v ≡ []) → IfOk r (λ v. IsListTake offsets (shown_picks (replicate n false) picks) (sums v) (runs v))
ok_none_there (Ok v) sums runs offsets n picks h e f = take_none_there offsets n picks (sums v) (runs v) h e f
ok_none_there (Err x) sums runs offsets n picks h e f = e
