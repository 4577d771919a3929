-- List views among joined rows.
use Rattle.std.proofs.Common.{◌≡◌, ℕ, ◌+◌, ◌-◌, ◌*◌, ◌<◌, ◌≤◌, Bool, true, false, cond, List, [], ◌∷◌, length, get_or, take, drop, Some, ap, sym, ◌∙◌, refl, subst, arith}
use Rattle.std.specs.Prelude.{slice_range, replicate}
use Rattle.std.specs.List.{flat_map}
use Rattle.std.proofs.lemmas.Bool.{and_from, eq-eqb, le-leb, lt-ltb}
use Rattle.vx_arrow_image.specs.declared.format.Format.TheVariants.{ListView}
use Rattle.vx_arrow_image.specs.declared.format.Offsets.{Offsets}
use Rattle.vx_arrow_image.specs.Rows.{RowValue, list, row_values}
use Rattle.vx_arrow_image.specs.Image.{Part, all_valid, if_valid, is_list_view, is_valid, limit_of, offset_at, size_of}
use Rattle.vx_arrow_image.proofs.CutRows.{range_all}
use Rattle.vx_arrow_columns.specs.Picks.{bytes_for}
use Rattle.vx_arrow_interleave.specs.declared.writing.BitsOf.TheVariants.{Validity}
use Rattle.vx_arrow_interleave.specs.Bytes.{AreBits, bit_in}
use Rattle.vx_arrow_interleave.specs.Given.{below, places, row_view_items, view_items}
use Rattle.vx_arrow_interleave.specs.Joined.{IsJoined, joined_part}
use Rattle.vx_arrow_interleave.specs.Sources.{is_there, part_at, shows_valid}
use Rattle.vx_arrow_interleave.specs.Spots.{Spot, gathered, run_of, spot, spot_at}
use Rattle.vx_arrow_interleave.specs.Tested.{AreReadable}
use Rattle.vx_arrow_interleave.specs.Views.{AreSizes, AreStarts}
use Rattle.vx_arrow_interleave.proofs.JoinedItems.{child_rows, child_within, rows_cell}
use Rattle.vx_arrow_interleave.proofs.JoinedNodes.{below_is, node_from, nullable_rows}
use Rattle.vx_arrow_interleave.proofs.JoinedRows.{front_more, front_within, length_places}

if_from : (w : Part) (f : ℕ → Bool) (i : ℕ) → f i ≡ true → if_valid w f i ≡ true
if_from w f i h = go (is_valid w.valid i)
  where
    go : (b : Bool) → cond b (f i) true ≡ true
    go true = h
    go false = refl

view_from : (z : Offsets) (w : Part) (n i : ℕ) → offset_at z w.offsets i < limit_of z → offset_at z w.sizes i < limit_of z → offset_at z w.offsets i + offset_at z w.sizes i ≤ n → is_list_view z w n i ≡ true
unfolding is_list_view
view_from z w n i small few low = and_from _ _ (lt-ltb _ _ small) (and_from _ _ (lt-ltb _ _ few) (le-leb _ _ low))

-- starts and sizes that count the items show so many items
new_views : (z : Offsets) (ps : List Part) (ss : List Spot) (w : Part) (n : ℕ) → w.offset ≡ 0 → w.len ≡ length ss → AreStarts z ps ss w.offsets → AreSizes z ps ss w.sizes → length (view_items z ps ss) < limit_of z → length (view_items z ps ss) ≤ n
    → all_valid w (is_list_view z w n) ≡ true
unfolding all_valid view_items
new_views z ps ss w n start len from sizes small room =
    range_all (if_valid w (is_list_view z w n)) w.offset w.len (λ i low high.
    let h : i < length ss = omega arith in
    let here = from.starts i h in
    let own = sizes.sizes i h in
    let more = front_more (row_view_items z ps) ss i (spot 0 0) h in
    let whole = front_within (row_view_items z ps) ss (i + 1) in
    if_from w (is_list_view z w n) i (view_from z w n i (omega arith) (omega arith) (omega arith)))

-- the items of a row that is there
there_views : (z : Offsets) (ps : List Part) (t : Spot) → is_there ps t ≡ true → row_view_items z ps t ≡ run_of t.source (offset_at z (part_at ps t.source).offsets t.row) (offset_at z (part_at ps t.source).sizes t.row)
there_views z ps t h =
    let p = part_at ps t.source in
    ap (λ b. cond b (run_of t.source (offset_at z p.offsets t.row) (offset_at z p.sizes t.row)) []) h

one_child : (n m : ℕ) → n ≡ 1 → replicate {A = ℕ} n m ≡ m ∷ []
one_child n m e = ap (λ k. replicate {A = ℕ} k m) e

pub list_view_joined : (z : Offsets) (ps : List Part) (ss : List Spot) (v o x s : List ℕ) → (part_at ps 0).format ≡ Some (ListView z) → AreReadable ps ss → (shows_valid ps ≡ true → bytes_for (length ss) ≤ length v) → (shows_valid ps ≡ true → AreBits (bit_in Validity ps) (places ps ss) v)
    → (part_at ps 0).children ≡ 1 → length (view_items z ps (places ps ss)) < limit_of z → size_of z * length ss ≤ length o → size_of z * length ss ≤ length s → AreStarts z ps (places ps ss) o → AreSizes z ps (places ps ss) s → IsJoined ps ss (joined_part ps ss v o x s)
unfolding view_items
list_view_joined z ps ss v o x s format r room shows one small far wide starts sizes =
    let w = joined_part ps ss v o x s in
    let S = places ps ss in
    let count = length_places ps ss in
    let is : below ps ss ≡ view_items z ps S = below_is ps ss (Some (ListView z)) format in
    let n = length (below ps ss) in
    let size : length (view_items z ps S) ≡ n = sym (ap length is) in
    let end : length ss ≡ 0 + length ss = omega arith in
    node_from ps ss v o x s (ListView z) format refl r room
    (and_from _ _ (eq-eqb _ _ one)
    (and_from _ _ (le-leb _ _ (subst (λ (m : ℕ). size_of z * m ≤ length o) end far))
    (and_from _ _ (le-leb _ _ (subst (λ (m : ℕ). size_of z * m ≤ length s) end wide))
    (ap (λ (l : List ℕ). all_valid w (is_list_view z w (get_or l 0 0))) (one_child (part_at ps 0).children n one) ∙ new_views z ps S w n refl (sym count) starts sizes small (omega (arith, size))))))
    (λ css ds a. nullable_rows ps ss v o x s (ListView z) format r tt room shows css ds (λ k h there.
    let t = spot_at S k in
    let p = part_at ps t.source in
    let low : k < length S = omega (arith, count) in
    let f = λ (s : ℕ). get_or (css s) 0 [] in
    let from = offset_at z p.offsets t.row in
    let len = offset_at z p.sizes t.row in
    let rows : get_or ds 0 [] ≡ gathered (view_items z ps S) f = child_rows ps ss css ds (Some (ListView z)) format refl a one ∙ ap (λ (l : List Spot). gathered l f) is in
    let next : offset_at z o k + offset_at z s k ≡ length (flat_map (row_view_items z ps) (take (k + 1) S)) = omega (arith, starts.starts k low, sizes.sizes k low, front_more (row_view_items z ps) S k (spot 0 0) low) in
    let own : from + len - from ≡ len = omega arith in
    ap (λ (l : List RowValue). list (row_values (slice_range l (offset_at z o k) (offset_at z o k + offset_at z s k)))) rows
    ∙ ap (λ (l : List RowValue). list (row_values l))
    (rows_cell (row_view_items z ps) S f k (offset_at z o k) (offset_at z o k + offset_at z s k) t.source from len low (there_views z ps t there) (starts.starts k low) next
    (subst (λ (l : List Spot). (j : ℕ) → j < length l → (spot_at l j).row < length (f (spot_at l j).source)) is (child_within ps ss css ds (Some (ListView z)) format refl a one)))
    ∙ ap (λ (m : ℕ). list (row_values (take m (drop from (f t.source))))) (sym own)))
