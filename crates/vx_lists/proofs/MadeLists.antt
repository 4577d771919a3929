-- Columns of lists that are made of offsets and of the elements that are left.
use Rattle.std.proofs.Common.{◌≡◌, ℕ, zero, suc, ◌+◌, ◌-◌, ◌<◌, ◌≤◌, Bool, true, false, List, [], ◌∷◌, length, get_or, map, replicate, None, Option, refl, sym, ap, ap₂, subst, ◌∙◌, add-one, arith}
use Rattle.std.specs.Prelude.{ℤ, pos, int_le, nat_le, ◌&&◌, if◌then◌else◌}
use Rattle.std.specs.List.{All, items_where_true, slice_range, sum_by}
use Rattle.std.proofs.lemmas.Bool.{le-leb, and_from}
use Rattle.std.proofs.lemmas.Bool.Decides.{nat_tests}
use Rattle.std.proofs.lemmas.Int.{ints}
use Rattle.std.proofs.lemmas.List.{length-map, length-replicate}
use Rattle.std.proofs.lemmas.List.Concat.{length-flat_map}
use Rattle.std.proofs.lemmas.List.Sums.{sum_by-cons}
use Rattle.vx_types.specs.RowValue.{RowValue}
use Rattle.vx_types.specs.declared.error.ColumnError.TheVariants.{WrongType, BadValidity, BadOffsets}
use Rattle.vx_types.specs.PType.{greatest}
use Rattle.vx_types.specs.declared.ptype.PType.{PType}
use Rattle.vx_bits.specs.BitBuffer.{true_count_of}
use Rattle.vx_mask.specs.Positions.{set_of}
use Rattle.vx_take.specs.Picks.{AreBelow, at, in_runs}
use Rattle.vx_offsets.specs.Offsets.{are_offsets, items_in, lists_at, offset_positions, spans}
use Rattle.vx_model.specs.Column.{Column}
use Rattle.vx_model.specs.List.{ListParts, list_fault, list_spans}
use Rattle.vx_model.specs.Lists.{kept_lists, lists_of}
use Rattle.vx_model.specs.Numbers.{integer_by, integers_of}
use Rattle.vx_model.specs.Records.{RecordParts, records_with}
use Rattle.vx_model.specs.Valid.{Valid, is_fitting, non_nullable, present_bits}
use Rattle.vx_model.proofs.Items.{length-slice_range, map-slice_range}
use Rattle.vx_model.proofs.ListRows.{integers-list, offsets-list, spans-list}
use Rattle.vx_model.proofs.Spans.{spans-slice}
use Rattle.vx_positions.specs.Positions.{position_of}
use Rattle.vx_types.specs.TypeTree.{is_int_kind}
use Rattle.vx_offsets.proofs.Cuts.{are_offsets-slice, cut_are, positions_back}
use Rattle.vx_model.proofs.ShownRows.{length-present_bits}
use Rattle.vx_model.proofs.Takes.{length-at}
use Rattle.vx_model.specs.VarBin.{are_integers, is_never_null, row_count}
use Rattle.vx_offsets.specs.Cut.{is_cut}
use Rattle.vx_lists.specs.Plans.{LeavesLists, MakesLists, PlansLists, is_all_invalid, lists_left}
use Rattle.vx_lists.specs.Sums.{concat_lists, length_at, offsets_of, sums_from}
use Rattle.vx_lists.specs.Takes.{IsListTake, shown_picks}
use Rattle.vx_lists.specs.Lists.{AreElementBits, AreOffsets, last_offset, row_count as rows_in}
use Rattle.vx_lists.specs.Numbers.{AreInType}
use Rattle.vx_lists.proofs.Joined.{cut_again}
use Rattle.vx_lists.proofs.KeptLists.{kept_items, lengths_of_rows, lists_at_the_set}
use Rattle.vx_lists.proofs.TakenLists.{lengths_picked, picked_lists, runs_joined}
use Rattle.std.specs.Cmp.{first_so}
use Rattle.vx_lemmas.proofs.Options.{no_fault}
use Rattle.vx_mask.proofs.PositionLists.{set_below}
use Rattle.vx_mask.proofs.RankedItems.{length-items_where_true}

-- ---- offsets that are sums

length-sums : (start : ℕ) (lengths : List ℕ) → length (sums_from start lengths) ≡ length lengths
length-sums start [] = refl
length-sums start (n ∷ lengths) = ap suc (length-sums (start + n) lengths)

pub length-offsets_of : (lengths : List ℕ) → length (offsets_of lengths) ≡ length lengths + 1
length-offsets_of lengths = omega (arith, length-sums 0 lengths)

-- they cut a list of as many elements as the lists have
cut_sums : {X : Type 0} (start : ℕ) (lists : List (List X)) → is_cut (start ∷ sums_from start (map length lists)) (start + sum_by length lists) ≡ true
cut_sums start [] = grind (arith, nat_tests)
cut_sums start (l ∷ lists) =
    let all : start + length l + sum_by length lists ≡ start + sum_by length (l ∷ lists) = omega (arith, sum_by-cons length l lists) in
    and_from (nat_le start (start + length l)) _ (le-leb start (start + length l) (omega arith))
    (ap (λ n. is_cut ((start + length l) ∷ sums_from (start + length l) (map length lists)) n) (sym all) ∙ cut_sums (start + length l) lists)

made_lists : (offsets : RecordParts) (valid : Valid) (os : List ℕ) (left : List RowValue) (lists : List (List RowValue)) → are_integers offsets ≡ true → integers_of offsets ≡ map pos os → LeavesLists os left lists → is_fitting valid (length lists) ≡ true → MakesLists offsets valid left lists
made_lists offsets valid os left lists int numbers leaves fits e rows =
    let positions : offset_positions (integers_of offsets) ≡ os = ap offset_positions numbers ∙ positions_back os in
    let count : row_count offsets ≡ length lists = omega (arith, length-map offsets.records (integer_by offsets.kind), ap length numbers, length-map os pos, ap length leaves.sums, length-offsets_of (map length lists), length-map lists (length {A = RowValue})) in
    let all : length e.rows ≡ sum_by length lists = ap length (rows ∙ leaves.elements) ∙ length-flat_map (λ (l : List RowValue). l) lists in
    let cut : is_cut os (length e.rows) ≡ true = ap₂ is_cut leaves.sums all ∙ cut_whole lists in (
      no_fault WrongType BadValidity BadOffsets (are_integers offsets) (is_fitting valid (row_count offsets)) (are_offsets (integers_of offsets) (length e.rows)) int
          (ap (is_fitting valid) count ∙ fits)
          (ap (λ zs. are_offsets zs (length e.rows)) numbers ∙ cut_are os (length e.rows) cut),
      ap₂ (λ ps (l : List RowValue). lists_at ps l) (positions ∙ leaves.sums) (rows ∙ leaves.elements) ∙ cut_again lists,
    )
  where
    cut_whole : (ls : List (List RowValue)) → is_cut (offsets_of (map length ls)) (sum_by length ls) ≡ true
    cut_whole ls = let none : sum_by length ls ≡ 0 + sum_by length ls = omega arith in ap (is_cut (offsets_of (map length ls))) none ∙ cut_sums 0 ls

pub planned_lists : (offsets : RecordParts) (valid : Valid) (os : List ℕ) (left : List RowValue) (lists : List (List RowValue)) → are_integers offsets ≡ true → integers_of offsets ≡ map pos os → LeavesLists os left lists → is_fitting valid (length lists) ≡ true → PlansLists offsets valid left lists
planned_lists offsets valid os left lists int numbers leaves fits = record {
  sums = numbers ∙ ap (map pos) leaves.sums;
  elements = leaves.elements;
  makes = made_lists offsets valid os left lists int numbers leaves fits;
}

-- ---- lists that are all empty

abbrev no_elements : List RowValue
no_elements = []

pub none_left : (n : ℕ) → LeavesLists (replicate (n + 1) 0) [] (replicate n [])
none_left n = record { sums = ap (λ k. replicate k 0) (add-one n) ∙ ap (λ l. 0 ∷ l) (zeros n); elements = nothing n }
  where
    zeros : (k : ℕ) → replicate k 0 ≡ sums_from 0 (map length (replicate k no_elements))
    zeros zero = refl
    zeros (suc k) = ap (λ l. 0 ∷ l) (zeros k)

    nothing : (k : ℕ) → [] ≡ concat_lists (replicate k no_elements)
    nothing zero = refl
    nothing (suc k) = nothing k

-- ---- the lists of valid rows

pub kept_at : {X : Type 0} (present : List Bool) (lists : List (List X)) (picks : List (Option ℕ)) → kept_lists present (at [] lists picks) ≡ at [] lists (shown_picks present picks)
kept_at [] lists picks = refl
kept_at (b ∷ present) lists [] = refl
kept_at (true ∷ present) lists (pick ∷ picks) = ap₂ ◌∷◌ refl (kept_at present lists picks)
kept_at (false ∷ present) lists (pick ∷ picks) = ap₂ ◌∷◌ refl (kept_at present lists picks)

-- ---- what the plans leave

pub filter_leaves : (offsets seen : List ℕ) (selection : List Bool) (range : ℕ × ℕ) (bits : List Bool) (os : List ℕ) (items : List RowValue) → seen ≡ offsets → AreOffsets seen → length seen ≡ length selection + 1 → range.0 ≤ range.1 → range.1 ≤ last_offset seen → last_offset seen ≤ length items → AreElementBits seen selection range bits → os ≡ offsets_of (map (length_at seen) (set_of selection)) → LeavesLists os (items_where_true bits (slice_range items range.0 range.1)) (items_where_true selection (lists_at offsets items))
filter_leaves offsets seen selection range bits os items e are h ordered within long v sums =
    let rows = set_of selection in
    let below = set_below selection (rows_in seen) (omega arith) in
    let lists = lists_at_the_set seen items selection h in
    let whole : LeavesLists os (items_where_true bits (slice_range items range.0 range.1)) (items_where_true selection (lists_at seen items)) = record {
      sums = sums ∙ ap offsets_of (sym (lengths_of_rows seen items rows are below long)) ∙ ap (λ (l : List (List RowValue)). offsets_of (map length l)) (sym lists);
      elements = kept_items seen selection range bits items are h ordered within long v ∙ ap concat_lists (sym lists);
    } in
    subst (λ (o : List ℕ). LeavesLists os (items_where_true bits (slice_range items range.0 range.1)) (items_where_true selection (lists_at o items))) e whole

pub take_leaves : (offsets seen : List ℕ) (present : List Bool) (picks : List (Option ℕ)) (os : List ℕ) (runs : List (ℕ × ℕ)) (items : List RowValue) → seen ≡ offsets → AreOffsets seen → AreBelow (shown_picks present picks) (rows_in seen) → last_offset seen ≤ length items → IsListTake seen (shown_picks present picks) os runs → LeavesLists os (in_runs items runs) (kept_lists present (at [] (lists_at offsets items) picks))
take_leaves offsets seen present picks os runs items e are below long v =
    let shown = shown_picks present picks in
    let lists = picked_lists seen items shown below in
    let whole : LeavesLists os (in_runs items runs) (at [] (lists_at seen items) shown) = record {
      sums = v.sums ∙ ap offsets_of (sym (lengths_picked seen items shown are below long)) ∙ ap (λ (l : List (List RowValue)). offsets_of (map length l)) (sym lists);
      elements = runs_joined seen items shown os runs are below long v ∙ ap concat_lists (sym lists);
    } in
    subst (λ (l : List (List RowValue)). LeavesLists os (in_runs items runs) l) (sym (kept_at present (lists_at offsets items) picks))
    (subst (λ (o : List ℕ). LeavesLists os (in_runs items runs) (at [] (lists_at o items) shown)) e whole)

-- what is no larger than the last offset is a number of the type too
pub bounded_in_type : (p : PType) (offsets os : List ℕ) → AreOffsets offsets → AreInType p offsets → All (λ n. n ≤ last_offset offsets) os → AreInType p os
bounded_in_type p offsets os are small bounded k d h =
    let some = are.some in
    let top : int_le (pos (last_offset offsets)) (greatest p) ≡ true = small (rows_in offsets) 0 (omega arith) in
    below (get_or os k d) (last_offset offsets) (greatest p) (bounded k d h) top
  where
    below : (n m : ℕ) (z : ℤ) → n ≤ m → int_le (pos m) z ≡ true → int_le (pos n) z ≡ true
    below n m z l e = grind (arith, ints)

pub length-lists_left : (v : Valid) (lists : List (List RowValue)) → length (lists_left v lists) ≡ length lists
length-lists_left v lists = by (is_all_invalid v)
  where
    by : (b : Bool) → length (if b then replicate (length lists) [] else lists) ≡ length lists
    by true = length-replicate (length lists) []
    by false = refl

-- the validity that is handed in fits the lists
pub fits_left : (v : Valid) (mask : List Bool) (lists : List (List RowValue)) → length mask ≡ length lists → is_fitting v (true_count_of mask) ≡ true → is_fitting v (length (lists_left v (items_where_true mask lists))) ≡ true
fits_left v mask lists h fits =
    ap (is_fitting v) (length-lists_left v (items_where_true mask lists) ∙ length-items_where_true mask lists h) ∙ fits

pub length-kept : (bits : List Bool) (lists : List (List RowValue)) → length bits ≡ length lists → length (kept_lists bits lists) ≡ length lists
length-kept [] [] h = refl
length-kept [] (x ∷ lists) h = absurd (omega arith)
length-kept (b ∷ bits) [] h = absurd (omega arith)
length-kept (b ∷ bits) (x ∷ lists) h = ap suc (length-kept bits lists (omega arith))

pub fits_kept : (v : Valid) (lists : List (List RowValue)) (picks : List (Option ℕ)) → is_fitting v (length picks) ≡ true → is_fitting v (length (kept_lists (present_bits v (length picks)) (at [] lists picks))) ≡ true
fits_kept v lists picks fits =
    let long = length-present_bits v (length picks) fits ∙ sym (length-at [] lists picks) in
    ap (is_fitting v) (length-kept (present_bits v (length picks)) (at [] lists picks) long ∙ length-at [] lists picks) ∙ fits

-- where some row may be there, no list is emptied
pub some_stay : (v : Valid) (os : List ℕ) (left : List RowValue) (lists : List (List RowValue)) → is_all_invalid v ≡ false → LeavesLists os left lists → LeavesLists os left (lists_left v lists)
some_stay v os left lists some leaves =
    subst (λ (b : Bool). LeavesLists os left (if b then replicate (length lists) [] else lists)) (sym some) leaves

-- an empty selection of no elements
pub empty_leaves : (v : Valid) (mask : List Bool) (lists : List (List RowValue)) (n : ℕ) (os : List ℕ) (bits : List Bool) (left : List RowValue) → is_all_invalid v ≡ true → length mask ≡ length lists → n ≡ true_count_of mask → os ≡ replicate (n + 1) 0 → bits ≡ [] → LeavesLists os (items_where_true bits left) (lists_left v (items_where_true mask lists))
empty_leaves v mask lists n os bits left gone h count zeros none =
    let many : n ≡ length (items_where_true mask lists) = count ∙ sym (length-items_where_true mask lists h) in
    let empty = none_left n in
    let whole : LeavesLists os (items_where_true bits left) (replicate (length (items_where_true mask lists)) []) = record {
      sums = zeros ∙ empty.sums ∙ ap (λ k. offsets_of (map length (replicate k no_elements))) many;
      elements = ap (λ b. items_where_true b left) none ∙ empty.elements ∙ ap (λ k. concat_lists (replicate k no_elements)) many;
    } in
    subst (λ (l : List (List RowValue)). LeavesLists os (items_where_true bits left) l) (ap (λ (b : Bool). if b then replicate (length (items_where_true mask lists)) [] else items_where_true mask lists) (sym gone)) whole

-- ---- a slice

-- the offsets from one to another
abbrev pub offsets_cut : ListParts → ℕ → ℕ → RecordParts
offsets_cut p s e = records_with p.offsets (slice_range p.offsets.records s (e + 1)) non_nullable

pub end_within : (p : ListParts) (e : ℕ) → list_fault p ≡ None → e ≤ length (list_spans p).spans → e + 1 ≤ length p.offsets.records
end_within p e h l = omega (arith, some (integers_of p.offsets) (offsets-list p h), length-map p.offsets.records (integer_by p.offsets.kind), spans-list p, l)
  where
    some : (zs : List ℤ) → are_offsets zs (length p.elements.rows) ≡ true → 0 < length zs
    some [] k = cc
    some (z ∷ zs) k = omega arith

pub list_sliced : (p : ListParts) (s e : ℕ) (v : Valid) → list_fault p ≡ None → s ≤ e → e ≤ length (list_spans p).spans → is_fitting v (e - s) ≡ true → (list_fault (record p { offsets = offsets_cut p s e; valid = v }) ≡ None) × (lists_of (list_spans (record p { offsets = offsets_cut p s e; valid = v })) ≡ slice_range (lists_of (list_spans p)) s e)
list_sliced p s e v h o l f =
    let zs = integers_of p.offsets in
    let within = end_within p e h l in
    let long = length-slice_range p.offsets.records s (e + 1) (omega (arith, o)) within in
    let rows : row_count (offsets_cut p s e) ≡ e - s = omega (arith, o, long) in
    let many : e + 1 ≤ length zs = omega (arith, within, length-map p.offsets.records (integer_by p.offsets.kind)) in
    let numbers : integers_of (offsets_cut p s e) ≡ slice_range zs s (e + 1) = map-slice_range (integer_by p.offsets.kind) p.offsets.records s (e + 1) in
    let positions = ap offset_positions numbers ∙ map-slice_range position_of zs s (e + 1) in (
      no_fault WrongType BadValidity BadOffsets (are_integers (offsets_cut p s e)) (is_fitting v (row_count (offsets_cut p s e))) (are_offsets (integers_of (offsets_cut p s e)) (length p.elements.rows))
          (ap (λ b. b && true) (first_so (is_int_kind p.offsets.kind) (is_never_null p.offsets.valid) (integers-list p h)))
          (ap (is_fitting v) rows ∙ f)
          (ap (λ x. are_offsets x (length p.elements.rows)) numbers ∙ are_offsets-slice (length p.elements.rows) zs s (e + 1) (omega (arith, o)) many (offsets-list p h)),
      ap (λ (ps : List ℕ). map (items_in p.elements.rows) (spans ps)) positions
          ∙ ap (map (items_in p.elements.rows)) (spans-slice (offset_positions zs) s e o)
          ∙ map-slice_range (items_in p.elements.rows) (spans (offset_positions zs)) s e,
    )

-- equal parts
pub same_list : (p : ListParts) (v : Valid) (lists : List (List RowValue)) (o os : RecordParts) (e : Column) → o ≡ os → e ≡ p.elements → (list_fault (record p { offsets = os; valid = v }) ≡ None) × (lists_of (list_spans (record p { offsets = os; valid = v })) ≡ lists) → (list_fault (record { elements = e; offsets = o; valid = v }) ≡ None) × (lists_of (list_spans (record { elements = e; offsets = o; valid = v })) ≡ lists)
same_list p v lists o os e f g made =
    subst (λ (x : RecordParts). (list_fault (record { elements = e; offsets = x; valid = v }) ≡ None) × (lists_of (list_spans (record { elements = e; offsets = x; valid = v })) ≡ lists)) (sym f)
    (subst (λ (x : Column). (list_fault (record { elements = x; offsets = os; valid = v }) ≡ None) × (lists_of (list_spans (record { elements = x; offsets = os; valid = v })) ≡ lists)) (sym g) made)
