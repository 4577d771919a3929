-- What a take leaves of list views; a filter and a slice are takes.
use Rattle.std.proofs.Common.{◌≡◌, ℕ, zero, suc, ◌+◌, ◌-◌, ◌<◌, ◌≤◌, Bool, true, false, List, [], ◌∷◌, length, get_or, map, take, drop, slice_range, replicate, None, Some, Option, refl, sym, ap, ap₂, subst, ◌∙◌, arith, to_z}
use Rattle.std.specs.Int.{w8, w16, w32, w64, from_le_bytes}
use Rattle.std.specs.Prelude.{IfSome, ℤ, pos, nat_le, ◌==◌, ◌&&◌, if◌then◌else◌}
use Rattle.std.specs.List.{All, items_where_true, list_all, range_with_len}
use Rattle.std.proofs.lemmas.Bool.{le-leb, and_from}
use Rattle.std.proofs.lemmas.Bool.Decides.{nat_tests}
use Rattle.std.proofs.lemmas.Int.{ints, to_z_pos}
use Rattle.std.proofs.lemmas.List.{drop_more, get_or_default, length-map}
use Rattle.std.proofs.lemmas.List.Elements.{All-cons, All-nil, All-tail}
use Rattle.vx_bits.specs.BitBuffer.{true_count_of}
use Rattle.vx_mask.specs.Positions.{set_of}
use Rattle.vx_mask.proofs.PositionLists.{length-positions, set_below}
use Rattle.vx_types.specs.PType.{number}
use Rattle.vx_types.specs.TypeTree.{TypeKind, primitive_kind, is_int_kind}
use Rattle.vx_types.specs.RowValue.{RowValue}
use Rattle.vx_types.specs.declared.ptype.PType.{PType}
use Rattle.vx_types.specs.declared.ptype.PType.TheVariants.{U8, U16, U32, U64, I8, I16, I32, I64, F16, F32, F64}
use Rattle.vx_types.specs.declared.error.ColumnError.TheVariants.{WrongType, WrongLength, BadValidity, BadOffsets, BadSizes}
use Rattle.vx_take.specs.Picks.{AreBelow, at, item_at}
use Rattle.vx_take.proofs.TakenLists.{take_at_the_set}
use Rattle.vx_model.specs.ListView.{ListViewParts, listview_fault, listview_spans, view_spans}
use Rattle.vx_offsets.specs.Offsets.{items_in, offset_positions, are_views, is_natural}
use Rattle.vx_model.specs.Lists.{lists_of}
use Rattle.vx_model.specs.Numbers.{integer_by, integers_of}
use Rattle.vx_model.specs.Records.{RecordParts, records_with}
use Rattle.vx_model.specs.Valid.{Valid, is_fitting, non_nullable}
use Rattle.vx_model.specs.VarBin.{are_integers, is_never_null}
use Rattle.vx_model.proofs.ListRows.{integers-view_offsets, integers-view_sizes, many-listview, offset-listview, size-listview, span-listview, spans-listview, within-listview}
use Rattle.vx_model.proofs.Takes.{length-at, map-at}
use Rattle.vx_lists.specs.Plans.{MakesViews}
use Rattle.vx_lists.proofs.TakenLists.{below_more}
use Rattle.std.specs.Cmp.{first_so}

-- ---- records of zeros

-- w zeros
abbrev zeros : ℕ → List ℕ
zeros w = replicate w 0

zero_at : (w i : ℕ) → get_or (zeros w) i 0 ≡ 0
zero_at zero i = refl
zero_at (suc w) zero = refl
zero_at (suc w) (suc i) = zero_at w i

zero_2 : (w : ℕ) → from_le_bytes w16 (zeros w) ≡ 0
zero_2 w = let a = zero_at w 0 in let b = zero_at w 1 in omega arith

zero_4 : (w : ℕ) → from_le_bytes w32 (zeros w) ≡ 0
zero_4 w = let a = zero_at w 0 in let b = zero_at w 1 in let c = zero_at w 2 in let d = zero_at w 3 in omega arith

zero_8 : (w : ℕ) → from_le_bytes w64 (zeros w) ≡ 0
zero_8 w =
    let a = zero_at w 0 in let b = zero_at w 1 in let c = zero_at w 2 in let d = zero_at w 3 in
    let e = zero_at w 4 in let f = zero_at w 5 in let g = zero_at w 6 in let h = zero_at w 7 in omega arith

zero_number : (p : PType) (w : ℕ) → number p (zeros w) ≡ pos 0
zero_number U8 w = ap pos (zero_at w 0)
zero_number U16 w = ap pos (zero_2 w)
zero_number U32 w = ap pos (zero_4 w)
zero_number U64 w = ap pos (zero_8 w)
zero_number I8 w = ap (to_z w8) (zero_at w 0) ∙ to_z_pos w8 0 (omega arith)
zero_number I16 w = ap (to_z w16) (zero_2 w) ∙ to_z_pos w16 0 (omega arith)
zero_number I32 w = ap (to_z w32) (zero_4 w) ∙ to_z_pos w32 0 (omega arith)
zero_number I64 w = ap (to_z w64) (zero_8 w) ∙ to_z_pos w64 0 (omega arith)
zero_number F16 w = ap pos (zero_2 w)
zero_number F32 w = ap pos (zero_4 w)
zero_number F64 w = ap pos (zero_8 w)

zero_integer : (k : TypeKind) (w : ℕ) → integer_by k (zeros w) ≡ pos 0
zero_integer (primitive_kind p) w = zero_number p w
zero_integer k w = refl

-- ---- the numbers at picks

-- the number at a pick; 0 at a null
abbrev number_at : List ℕ → Option ℕ → ℕ
number_at numbers None = 0
number_at numbers (Some i) = get_or numbers i 0

-- records that spell naturals
abbrev AreNatural : RecordParts → Type 0
AreNatural n = (i : ℕ) → i < length n.records → pos (get_or (offset_positions (integers_of n)) i 0) ≡ integer_by n.kind (get_or n.records i [])

abbrev numbers_at : RecordParts → List (Option ℕ) → RecordParts
numbers_at n picks = records_with n (at (replicate n.width 0) n.records picks) non_nullable

spelled : (n : RecordParts) (pick : Option ℕ) → AreNatural n → IfSome pick (λ i. i < length n.records) → integer_by n.kind (item_at (replicate n.width 0) n.records pick) ≡ pos (number_at (offset_positions (integers_of n)) pick)
spelled n None natural h = zero_integer n.kind n.width
spelled n (Some i) natural h = ap (integer_by n.kind) (get_or_default n.records i (replicate n.width 0) [] h) ∙ sym (natural i h)

all_spelled : (n : RecordParts) (picks : List (Option ℕ)) → AreNatural n → AreBelow picks (length n.records) → integers_of (numbers_at n picks) ≡ map (λ o. pos (number_at (offset_positions (integers_of n)) o)) picks
all_spelled n [] natural h = refl
all_spelled n (pick ∷ picks) natural h =
    ap₂ ◌∷◌ (spelled n pick natural (h 0 None (omega arith))) (all_spelled n picks natural (All-tail (λ (o : Option ℕ). IfSome o (λ i. i < length n.records)) pick picks h))

natural : (n : ℕ) → is_natural (pos n) ≡ true
natural n = grind (arith, ints)

all_natural : (f : Option ℕ → ℕ) (picks : List (Option ℕ)) → list_all is_natural (map (λ o. pos (f o)) picks) ≡ true
all_natural f [] = refl
all_natural f (pick ∷ picks) = and_from (is_natural (pos (f pick))) _ (natural (f pick)) (all_natural f picks)

positions_at : (f : Option ℕ → ℕ) (picks : List (Option ℕ)) → offset_positions (map (λ o. pos (f o)) picks) ≡ map f picks
positions_at f [] = refl
positions_at f (pick ∷ picks) = ap (λ l. f pick ∷ l) (positions_at f picks)

integers_at : (n : RecordParts) (picks : List (Option ℕ)) → are_integers n ≡ true → are_integers (numbers_at n picks) ≡ true
integers_at n picks h = ap (λ b. b && true) (first_so (is_int_kind n.kind) (is_never_null n.valid) h)

no_fault : (a b c d e : Bool) → a ≡ true → b ≡ true → c ≡ true → d ≡ true → e ≡ true → (if a then (if b then (if c then (if d then (if e then None else Some BadSizes) else Some BadOffsets) else Some BadValidity) else Some WrongLength) else Some WrongType) ≡ None
no_fault true true true true true h k l m n = refl
no_fault true true true true false h k l m n = cc
no_fault true true true false e h k l m n = cc
no_fault true true false d e h k l m n = cc
no_fault true false c d e h k l m n = cc
no_fault false b c d e h k l m n = cc

as_many : (a b n : ℕ) → a ≡ n → b ≡ n → (a == b) ≡ true
as_many a b n h k = grind (arith, nat_tests)

-- ---- a take

-- the parts at picks
abbrev pub views_at : ListViewParts → List (Option ℕ) → Valid → ListViewParts
views_at p picks v = record p { offsets = numbers_at p.offsets picks; sizes = numbers_at p.sizes picks; valid = v }

view_inside : (p : ListViewParts) (pick : Option ℕ) → listview_fault p ≡ None → IfSome pick (λ i. i < length p.offsets.records) → number_at (offset_positions (integers_of p.offsets)) pick + number_at (offset_positions (integers_of p.sizes)) pick ≤ length p.elements.rows
view_inside p None h k = omega arith
view_inside p (Some i) h k = within-listview p h i (omega (arith, k, spans-listview p h))

views_inside : (p : ListViewParts) (picks : List (Option ℕ)) → listview_fault p ≡ None → AreBelow picks (length p.offsets.records) → are_views (map (number_at (offset_positions (integers_of p.offsets))) picks) (map (number_at (offset_positions (integers_of p.sizes))) picks) (length p.elements.rows) ≡ true
views_inside p [] h below = refl
views_inside p (pick ∷ picks) h below =
    let o = number_at (offset_positions (integers_of p.offsets)) pick in
    let s = number_at (offset_positions (integers_of p.sizes)) pick in
    and_from (nat_le (o + s) (length p.elements.rows)) _
    (le-leb (o + s) (length p.elements.rows) (view_inside p pick h (below 0 None (omega arith))))
    (views_inside p picks h (All-tail (λ (x : Option ℕ). IfSome x (λ i. i < length p.offsets.records)) pick picks below))

view_at : (p : ListViewParts) (pick : Option ℕ) → listview_fault p ≡ None → IfSome pick (λ i. i < length p.offsets.records) → (number_at (offset_positions (integers_of p.offsets)) pick, number_at (offset_positions (integers_of p.offsets)) pick + number_at (offset_positions (integers_of p.sizes)) pick) ≡ item_at (0, 0) (listview_spans p).spans pick
view_at p None h k = refl
view_at p (Some i) h k = sym (span-listview p h i (omega (arith, k, spans-listview p h)))

spans_at : (p : ListViewParts) (picks : List (Option ℕ)) → listview_fault p ≡ None → AreBelow picks (length p.offsets.records) → view_spans (map (number_at (offset_positions (integers_of p.offsets))) picks) (map (number_at (offset_positions (integers_of p.sizes))) picks) ≡ at (0, 0) (listview_spans p).spans picks
spans_at p [] h below = refl
spans_at p (pick ∷ picks) h below =
    ap₂ ◌∷◌ (view_at p pick h (below 0 None (omega arith)))
    (spans_at p picks h (All-tail (λ (x : Option ℕ). IfSome x (λ i. i < length p.offsets.records)) pick picks below))

pub views_taken : (p : ListViewParts) (picks : List (Option ℕ)) (v : Valid) → listview_fault p ≡ None → AreBelow picks (length p.offsets.records) → is_fitting v (length picks) ≡ true → MakesViews (views_at p picks v) (at [] (lists_of (listview_spans p)) picks)
views_taken p picks v h below fits =
    let os = number_at (offset_positions (integers_of p.offsets)) in
    let ss = number_at (offset_positions (integers_of p.sizes)) in
    let same = many-listview p h in
    let below_sizes : AreBelow picks (length p.sizes.records) = subst (λ (n : ℕ). AreBelow picks n) same below in
    let offsets = all_spelled p.offsets picks (offset-listview p h) below in
    let sizes = all_spelled p.sizes picks (size-listview p h) below_sizes in
    let long = length-at (replicate p.offsets.width 0) p.offsets.records picks in
    let long_sizes = length-at (replicate p.sizes.width 0) p.sizes.records picks in
    let n = length p.elements.rows in (
      no_fault _ _ _ _ _
          (and_from (are_integers (numbers_at p.offsets picks)) _ (integers_at p.offsets picks (integers-view_offsets p h)) (integers_at p.sizes picks (integers-view_sizes p h)))
          (as_many _ _ (length picks) long long_sizes)
          (ap (is_fitting v) long ∙ fits)
          (ap (list_all is_natural) offsets ∙ all_natural os picks)
          (and_from (list_all is_natural (integers_of (numbers_at p.sizes picks))) _ (ap (list_all is_natural) sizes ∙ all_natural ss picks)
          (ap₂ (λ (a b : List ℤ). are_views (offset_positions a) (offset_positions b) n) offsets sizes
          ∙ ap₂ (λ (a b : List ℕ). are_views a b n) (positions_at os picks) (positions_at ss picks)
          ∙ views_inside p picks h below)),
      ap₂ (λ (a b : List ℤ). map (items_in p.elements.rows) (view_spans (offset_positions a) (offset_positions b))) offsets sizes
          ∙ ap₂ (λ (a b : List ℕ). map (items_in p.elements.rows) (view_spans a b)) (positions_at os picks) (positions_at ss picks)
          ∙ ap (map (items_in p.elements.rows)) (spans_at p picks h below)
          ∙ map-at (items_in p.elements.rows) (0, 0) (listview_spans p).spans picks,
    )

-- ---- a filter

all_below : (n : ℕ) (places : List ℕ) → All (λ i. i < n) places → AreBelow (map Some places) n
all_below n [] h = All-nil (λ (o : Option ℕ). IfSome o (λ i. i < n))
all_below n (i ∷ places) h = All-cons (λ (o : Option ℕ). IfSome o (λ i. i < n)) (Some i) (map Some places) (h 0 0 (omega arith)) (all_below n places (All-tail (λ i. i < n) i places h))

pub views_filtered : (p : ListViewParts) (bits : List Bool) (v : Valid) → listview_fault p ≡ None → length bits ≡ length (listview_spans p).spans → is_fitting v (true_count_of bits) ≡ true → MakesViews (record p { offsets = records_with p.offsets (items_where_true bits p.offsets.records) non_nullable; sizes = records_with p.sizes (items_where_true bits p.sizes.records) non_nullable; valid = v }) (items_where_true bits (lists_of (listview_spans p)))
views_filtered p bits v h long fits =
    let picks = map Some (set_of bits) in
    let rows : length bits ≡ length p.offsets.records = long ∙ spans-listview p h in
    let count : length picks ≡ true_count_of bits = length-map (set_of bits) Some ∙ length-positions 0 bits in
    let below : AreBelow picks (length p.offsets.records) = all_below (length p.offsets.records) (set_of bits) (set_below bits (length p.offsets.records) rows) in
    let os = take_at_the_set (replicate p.offsets.width 0) bits p.offsets.records rows in
    let ss = take_at_the_set (replicate p.sizes.width 0) bits p.sizes.records (rows ∙ many-listview p h) in
    let lists = take_at_the_set [] bits (lists_of (listview_spans p)) (long ∙ sym (length-map (listview_spans p).spans (items_in p.elements.rows))) in
    subst (λ (l : List (List RowValue)). MakesViews (record p { offsets = records_with p.offsets (items_where_true bits p.offsets.records) non_nullable; sizes = records_with p.sizes (items_where_true bits p.sizes.records) non_nullable; valid = v }) l) (sym lists)
    (subst (λ (l : List (List ℕ)). MakesViews (record p { offsets = records_with p.offsets l non_nullable; sizes = records_with p.sizes (items_where_true bits p.sizes.records) non_nullable; valid = v }) (at [] (lists_of (listview_spans p)) picks)) (sym os)
    (subst (λ (l : List (List ℕ)). MakesViews (record p { offsets = records_with p.offsets (at (replicate p.offsets.width 0) p.offsets.records picks) non_nullable; sizes = records_with p.sizes l non_nullable; valid = v }) (at [] (lists_of (listview_spans p)) picks)) (sym ss)
    (views_taken p picks v h below (ap (is_fitting v) count ∙ fits))))

-- ---- a slice

cut_at : {X : Type 0} (missing : X) (xs : List X) (s n : ℕ) → s + n ≤ length xs → take n (drop s xs) ≡ at missing xs (map Some (range_with_len s n))
cut_at missing xs s zero h = refl
cut_at missing xs s (suc n) h =
    ap (take (suc n)) (drop_more xs s missing (omega arith)) ∙ ap (λ l. get_or xs s missing ∷ l) (cut_at missing xs (s + 1) n (omega arith))

rows_between : (s n bound : ℕ) → s + n ≤ bound → AreBelow (map Some (range_with_len s n)) bound
rows_between s zero bound h = All-nil (λ (o : Option ℕ). IfSome o (λ i. i < bound))
rows_between s (suc n) bound h = All-cons (λ (o : Option ℕ). IfSome o (λ i. i < bound)) (Some s) (map Some (range_with_len (s + 1) n)) (omega arith) (rows_between (s + 1) n bound (omega arith))

length-between : (s n : ℕ) → length (map Some (range_with_len s n)) ≡ n
length-between s zero = refl
length-between s (suc n) = ap suc (length-between (s + 1) n)

pub views_sliced : (p : ListViewParts) (s e : ℕ) (v : Valid) → listview_fault p ≡ None → s ≤ e → e ≤ length (listview_spans p).spans → is_fitting v (e - s) ≡ true → MakesViews (record p { offsets = records_with p.offsets (slice_range p.offsets.records s e) non_nullable; sizes = records_with p.sizes (slice_range p.sizes.records s e) non_nullable; valid = v }) (slice_range (lists_of (listview_spans p)) s e)
views_sliced p s e v h o l fits =
    let n = e - s in
    let picks = map Some (range_with_len s n) in
    let spans = spans-listview p h in
    let below : AreBelow picks (length p.offsets.records) = rows_between s n (length p.offsets.records) (omega (arith, o, l, spans)) in
    let os = cut_at (replicate p.offsets.width 0) p.offsets.records s n (omega (arith, o, l, spans)) in
    let ss = cut_at (replicate p.sizes.width 0) p.sizes.records s n (omega (arith, o, l, spans, many-listview p h)) in
    let lists = cut_at [] (lists_of (listview_spans p)) s n (omega (arith, o, l, length-map (listview_spans p).spans (items_in p.elements.rows))) in
    subst (λ (x : List (List RowValue)). MakesViews (record p { offsets = records_with p.offsets (slice_range p.offsets.records s e) non_nullable; sizes = records_with p.sizes (slice_range p.sizes.records s e) non_nullable; valid = v }) x) (sym lists)
    (subst (λ (x : List (List ℕ)). MakesViews (record p { offsets = records_with p.offsets x non_nullable; sizes = records_with p.sizes (slice_range p.sizes.records s e) non_nullable; valid = v }) (at [] (lists_of (listview_spans p)) picks)) (sym os)
    (subst (λ (x : List (List ℕ)). MakesViews (record p { offsets = records_with p.offsets (at (replicate p.offsets.width 0) p.offsets.records picks) non_nullable; sizes = records_with p.sizes x non_nullable; valid = v }) (at [] (lists_of (listview_spans p)) picks)) (sym ss)
    (views_taken p picks v h below (ap (is_fitting v) (length-between s n) ∙ fits))))

-- ---- equal parts

pub same_views : (p : ListViewParts) (v : Valid) (lists : List (List RowValue)) (o s os ss : RecordParts) → o ≡ os → s ≡ ss → MakesViews (record p { offsets = os; sizes = ss; valid = v }) lists → MakesViews (record p { offsets = o; sizes = s; valid = v }) lists
same_views p v lists o s os ss e f makes =
    subst (λ (x : RecordParts). MakesViews (record p { offsets = x; sizes = s; valid = v }) lists) (sym e)
    (subst (λ (x : RecordParts). MakesViews (record p { offsets = os; sizes = x; valid = v }) lists) (sym f) makes)

-- picks of rows are picks of offsets
pub below_rows : (p : ListViewParts) (picks : List (Option ℕ)) (bound b : ℕ) → listview_fault p ≡ None → b ≡ bound → bound ≤ length (listview_spans p).spans → AreBelow picks b → AreBelow picks (length p.offsets.records)
below_rows p picks bound b h e l below = below_more picks b (length p.offsets.records) (omega (arith, spans-listview p h)) below
