-- Nodes of joined rows that have items: texts, lists and lists of a fixed size.
use Rattle.std.proofs.Common.{zero, suc, ◌≡◌, ℕ, ◌+◌, ◌-◌, ◌*◌, ◌<◌, ◌≤◌, true, false, cond, List, [], ◌∷◌, length, get_or, take, drop, map, Option, Some, ap, sym, ◌∙◌, refl, subst, arith, leb, eqb}
use Rattle.std.specs.Prelude.{◌||◌, slice_range, replicate}
use Rattle.std.specs.List.{flat_map, range_with_len}
use Rattle.std.proofs.lemmas.Bool.{and_from, eq-eqb, le-leb, or_right}
use Rattle.std.proofs.lemmas.List.{get_or-drop, get_or-take, drop-map, take-map, take_all}
use Rattle.std.proofs.lemmas.List.FromFn.{get_or-map-range_with_len, length-map-range_with_len}
use Rattle.vx_arrow_image.specs.declared.format.Format.{Format}
use Rattle.vx_arrow_image.specs.declared.format.Format.TheVariants.{List as Lists, FixedList}
use Rattle.vx_arrow_image.specs.declared.format.Offsets.{Offsets}
use Rattle.vx_arrow_image.specs.Rows.{RowValue, null, list, row_values}
use Rattle.vx_arrow_image.specs.Image.{Part, are_cut, limit_of, offset_at, size_of}
use Rattle.vx_arrow_image.proofs.CutRows.{are_cut_from, cut_from}
use Rattle.vx_arrow_columns.specs.Picks.{bytes_for}
use Rattle.vx_arrow_columns.proofs.Cuts.{range_reads}
use Rattle.vx_arrow_interleave.specs.declared.writing.BitsOf.TheVariants.{Validity}
use Rattle.vx_arrow_interleave.specs.Bytes.{AreBits, AreOffsets, bit_in}
use Rattle.vx_arrow_interleave.specs.Given.{below, belows, fixed_items, fixed_row, items, places, row_items, splits}
use Rattle.vx_arrow_interleave.specs.Joined.{AreChildren, IsJoined, joined_part}
use Rattle.vx_arrow_interleave.specs.Sources.{is_there, part_at, shows_valid}
use Rattle.vx_arrow_interleave.specs.Spots.{Spot, gathered, row_at_spot, run_of, spot, spot_at}
use Rattle.vx_arrow_interleave.specs.Tested.{AreReadable}
use Rattle.vx_arrow_interleave.proofs.JoinedNodes.{below_at, below_is, belows_len, held_by, node_from, nullable_rows, place_source}
use Rattle.vx_arrow_interleave.proofs.JoinedRows.{cell, even_front, front_more, front_within, length_places}

-- ---- the new offsets

holds_from : (z : Offsets) (w : Part) → size_of z * (w.offset + w.len + 1) ≤ length w.offsets → (eqb w.len 0 || leb (size_of z * (w.offset + w.len + 1)) (length w.offsets)) ≡ true
holds_from z w h = or_right _ _ (le-leb _ _ h)

-- offsets that count the items before each row cut so many items
pub new_cuts : (z : Offsets) (ps : List Part) (ss : List Spot) (w : Part) (n : ℕ) → w.offset ≡ 0 → w.len ≡ length ss → size_of z * (length ss + 1) ≤ length w.offsets → AreOffsets z ps ss w.offsets → length (items z ps ss) < limit_of z → length (items z ps ss) ≤ n
    → are_cut z w n ≡ true
unfolding items
new_cuts z ps ss w n start len long offs small room =
    let last : w.offset + w.len + 1 ≡ length ss + 1 = omega arith in
    are_cut_from z w n (holds_from z w (subst (λ (m : ℕ). size_of z * m ≤ length w.offsets) (sym last) long)) (λ i low high.
    let h : i < length ss = omega arith in
    let here = offs.ends i (omega arith) in
    let next = offs.ends (i + 1) (omega arith) in
    let more = front_more (row_items z ps) ss i (spot 0 0) h in
    let whole = front_within (row_items z ps) ss (i + 1) in
    cut_from z w n i (omega arith) (omega arith) (omega arith))

-- ---- the items of one row

-- the items of a row that is there
pub there_items : (z : Offsets) (ps : List Part) (t : Spot) → is_there ps t ≡ true
    → row_items z ps t ≡ run_of t.source (offset_at z (part_at ps t.source).offsets t.row) (offset_at z (part_at ps t.source).offsets (t.row + 1) - offset_at z (part_at ps t.source).offsets t.row)
there_items z ps t h =
    let p = part_at ps t.source in
    ap (λ b. cond b (run_of t.source (offset_at z p.offsets t.row) (offset_at z p.offsets (t.row + 1) - offset_at z p.offsets t.row)) []) h

length_run : (s a n : ℕ) → length (run_of s a n) ≡ n
length_run s a n = length-map-range_with_len (spot s) a n

get_run : (s a n j : ℕ) → j < n → spot_at (run_of s a n) j ≡ spot s (a + j)
get_run s a n j h = get_or-map-range_with_len (spot s) a n j (a + j) (spot 0 0) h refl

cut_map : {X Y : Type 0} (g : X → Y) (xs : List X) (a b : ℕ) → slice_range (map g xs) a b ≡ map g (slice_range xs a b)
cut_map g xs a b = ap (take (b - a)) (drop-map g a xs) ∙ take-map g (b - a) (drop a xs)

-- a child's rows at the items of a row are those of its source's child
pub rows_cell : (g : Spot → List Spot) (ss : List Spot) (f : ℕ → List RowValue) (k a b s i n : ℕ) → k < length ss → g (spot_at ss k) ≡ run_of s i n → a ≡ length (flat_map g (take k ss)) → b ≡ length (flat_map g (take (k + 1) ss))
    → ((j : ℕ) → j < length (flat_map g ss) → (spot_at (flat_map g ss) j).row < length (f (spot_at (flat_map g ss) j).source))
    → slice_range (gathered (flat_map g ss) f) a b ≡ take n (drop i (f s))
rows_cell g ss f k a b s i n h is from to within =
    let all = flat_map g ss in
    let cut : slice_range all a b ≡ run_of s i n = cell g ss all k a b (spot 0 0) (take_all (length all) all (omega arith)) h from to ∙ is in
    let more = front_more g ss k (spot 0 0) h in
    let whole = front_within g ss (k + 1) in
    let size : b - a ≡ n = omega (arith, more, from, to, ap length is, length_run s i n) in
    let end : a + n ≤ length all = omega (arith, more, from, to, ap length is, length_run s i n, whole) in
    let at : (j : ℕ) → j < n → spot_at all (a + j) ≡ spot s (i + j) = λ j l.
    sym (get_or-drop a all j (spot 0 0)) ∙ sym (get_or-take (b - a) (drop a all) j (spot 0 0) (omega (arith, size))) ∙ ap (λ (l : List Spot). spot_at l j) cut ∙ get_run s i n j l in
    cut_map (row_at_spot f) all a b ∙ ap (map (row_at_spot f)) cut ∙ run_reads f s i n (λ j l. subst (λ (t : Spot). t.row < length (f t.source)) (at j l) (within (a + j) (omega arith)))
  where
    run_reads : (f : ℕ → List RowValue) (s i n : ℕ) → ((j : ℕ) → j < n → i + j < length (f s)) → map (row_at_spot f) (run_of s i n) ≡ take n (drop i (f s))
    run_reads f s i n low = map_map i n ∙ range_reads (f s) i n (far n low)
      where
        map_map : (i n : ℕ) → map (row_at_spot f) (run_of s i n) ≡ map (λ m. get_or (f s) m null) (range_with_len i n)
        map_map i zero = refl
        map_map i (suc n) = ap (λ l. get_or (f s) i null ∷ l) (map_map (i + 1) n)

        far : (n : ℕ) → ((j : ℕ) → j < n → i + j < length (f s)) → n ≤ length (f s) - i
        far zero low = omega arith
        far (suc n) low = let last = low n (omega arith) in omega arith

-- ---- lists

pub child_within : (ps : List Part) (ss : List Spot) (css : ℕ → List (List RowValue)) (ds : List (List RowValue)) (f : Option Format) → (part_at ps 0).format ≡ f → splits f ≡ false → AreChildren (length ps) (belows ps ss) css ds → (part_at ps 0).children ≡ 1
    → (j : ℕ) → j < length (below ps ss) → (spot_at (below ps ss) j).row < length (get_or (css (spot_at (below ps ss) j).source) 0 [])
child_within ps ss css ds f e same a one j h =
    let at = below_at ps ss 0 f e same (omega arith) in
    subst (λ (l : List Spot). (spot_at l j).row < length (get_or (css (spot_at l j).source) 0 [])) at (a.within 0 j (omega (arith, belows_len ps ss)) (subst (λ (l : List Spot). j < length l) (sym at) h))

pub child_rows : (ps : List Part) (ss : List Spot) (css : ℕ → List (List RowValue)) (ds : List (List RowValue)) (f : Option Format) → (part_at ps 0).format ≡ f → splits f ≡ false → AreChildren (length ps) (belows ps ss) css ds → (part_at ps 0).children ≡ 1
    → get_or ds 0 [] ≡ gathered (below ps ss) (λ s. get_or (css s) 0 [])
child_rows ps ss css ds f e same a one = a.at 0 (omega (arith, belows_len ps ss)) ∙ ap (λ (l : List Spot). gathered l (λ s. get_or (css s) 0 [])) (below_at ps ss 0 f e same (omega arith))

one_child : (n m : ℕ) → n ≡ 1 → replicate {A = ℕ} n m ≡ m ∷ []
one_child n m e = ap (λ k. replicate {A = ℕ} k m) e

pub list_joined : (z : Offsets) (ps : List Part) (ss : List Spot) (v o x s : List ℕ) → (part_at ps 0).format ≡ Some (Lists z) → AreReadable ps ss → (shows_valid ps ≡ true → bytes_for (length ss) ≤ length v) → (shows_valid ps ≡ true → AreBits (bit_in Validity ps) (places ps ss) v)
    → size_of z * (length ss + 1) ≤ length o → AreOffsets z ps (places ps ss) o → IsJoined ps ss (joined_part ps ss v o x s)
unfolding items
list_joined z ps ss v o x s format r room shows long offs =
    let w = joined_part ps ss v o x s in
    let S = places ps ss in
    let count = length_places ps ss in
    let held = held_by ps ss (Some (Lists z)) format r in
    let one = held.0 in
    let is : below ps ss ≡ items z ps S = below_is ps ss (Some (Lists z)) format in
    let n = length (below ps ss) in
    let far : size_of z * (length S + 1) ≤ length o = subst (λ (m : ℕ). size_of z * (m + 1) ≤ length o) (sym count) long in
    let size : length (items z ps S) ≡ n = sym (ap length is) in
    node_from ps ss v o x s (Lists z) format refl r room
    (and_from _ _ (eq-eqb _ _ one) (ap (λ (l : List ℕ). are_cut z w (get_or l 0 0)) (one_child (part_at ps 0).children n one) ∙ new_cuts z ps S w n refl (sym count) far offs held.1.1 (omega (arith, size))))
    (λ css ds a. nullable_rows ps ss v o x s (Lists z) format r tt room shows css ds (λ k h there.
    let t = spot_at S k in
    let p = part_at ps t.source in
    let low : k < length S = omega (arith, count) in
    let f = λ (s : ℕ). get_or (css s) 0 [] in
    let rows : get_or ds 0 [] ≡ gathered (items z ps S) f = child_rows ps ss css ds (Some (Lists z)) format refl a one ∙ ap (λ (l : List Spot). gathered l f) is in
    ap (λ (l : List RowValue). list (row_values (slice_range l (offset_at z o k) (offset_at z o (k + 1))))) rows
    ∙ ap (λ (l : List RowValue). list (row_values l))
    (rows_cell (row_items z ps) S f k (offset_at z o k) (offset_at z o (k + 1)) t.source (offset_at z p.offsets t.row) (offset_at z p.offsets (t.row + 1) - offset_at z p.offsets t.row) low (there_items z ps t there)
    (offs.ends k (omega arith)) (offs.ends (k + 1) (omega arith))
    (subst (λ (l : List Spot). (j : ℕ) → j < length l → (spot_at l j).row < length (f (spot_at l j).source)) is (child_within ps ss css ds (Some (Lists z)) format refl a one)))))

-- ---- lists of a fixed size

pub fixed_list_joined : (ps : List Part) (ss : List Spot) (v o x s : List ℕ) → (part_at ps 0).format ≡ Some FixedList → AreReadable ps ss → (shows_valid ps ≡ true → bytes_for (length ss) ≤ length v) → (shows_valid ps ≡ true → AreBits (bit_in Validity ps) (places ps ss) v)
    → IsJoined ps ss (joined_part ps ss v o x s)
unfolding fixed_items
fixed_list_joined ps ss v o x s format r room shows =
    let w = joined_part ps ss v o x s in
    let S = places ps ss in
    let count = length_places ps ss in
    let held = held_by ps ss (Some FixedList) format r in
    let one = held.0 in
    let n = (part_at ps 0).width in
    let g = fixed_row n in
    let is : below ps ss ≡ flat_map g S = below_is ps ss (Some FixedList) format in
    let each : (j : ℕ) → j < length S → length (g (get_or S j (spot 0 0))) ≡ n = λ j l. length_run (spot_at S j).source ((spot_at S j).row * n) n in
    let total : length (below ps ss) ≡ length S * n = ap length is ∙ ap (λ l. length (flat_map g l)) (sym (take_all (length S) S (omega arith))) ∙ even_front g S n (length S) (spot 0 0) each (omega arith) in
    let m = length (below ps ss) in
    let far : (0 + length ss) * n ≤ m = subst (λ (i : ℕ). i * n ≤ m) (let e : length S ≡ 0 + length ss = omega (arith, count) in e) (omega (arith, total)) in
    node_from ps ss v o x s FixedList format refl r room
    (and_from _ _ (eq-eqb _ _ one) (ap (λ (l : List ℕ). leb ((0 + length ss) * n) (get_or l 0 0)) (one_child (part_at ps 0).children m one) ∙ le-leb _ _ far))
    (λ css ds a. nullable_rows ps ss v o x s FixedList format r tt room shows css ds (λ k h there.
    let t = spot_at S k in
    let p = part_at ps t.source in
    let low : k < length S = omega (arith, count) in
    let f = λ (s : ℕ). get_or (css s) 0 [] in
    let like = r.alike.like t.source (place_source ps ss k r.rows h) in
    let rows : get_or ds 0 [] ≡ gathered (flat_map g S) f = child_rows ps ss css ds (Some FixedList) format refl a one ∙ ap (λ (l : List Spot). gathered l f) is in
    let next : (k + 1) * n ≡ k * n + n = omega arith in
    let size : (k + 1) * n - k * n ≡ n = omega arith in
    ap (λ (l : List RowValue). list (row_values (take n (drop (k * n) l)))) rows
    ∙ ap (λ i. list (row_values (take i (drop (k * n) (gathered (flat_map g S) f))))) (sym size)
    ∙ ap (λ (l : List RowValue). list (row_values l))
    (rows_cell g S f k (k * n) ((k + 1) * n) t.source (t.row * n) n low refl (sym (even_front g S n k (spot 0 0) each (omega arith))) (sym (even_front g S n (k + 1) (spot 0 0) each (omega arith)))
    (subst (λ (l : List Spot). (j : ℕ) → j < length l → (spot_at l j).row < length (f (spot_at l j).source)) is (child_within ps ss css ds (Some FixedList) format refl a one)))
    ∙ ap (λ i. list (row_values (take i (drop (t.row * i) (f t.source))))) (sym like.width)))
