-- Lists that are put one after another, and the columns that they make.
use Rattle.std.proofs.Common.{◌≡◌, ℕ, ◌+◌, true, List, [], ◌∷◌, ◌++◌, length, map, None, refl, sym, ap, ap₂, subst, ◌∙◌, arith}
use Rattle.std.specs.Prelude.{pos}
use Rattle.std.specs.List.{All, sum_by}
use Rattle.std.proofs.lemmas.List.{append-nil, length-append, length-map}
use Rattle.std.proofs.lemmas.Simd.{map-map}
use Rattle.std.proofs.lemmas.List.Concat.{flat_map-append, length-flat_map}
use Rattle.std.proofs.lemmas.List.Elements.{All-append, All-cons, All-nil}
use Rattle.vx_types.specs.RowValue.{RowValue}
use Rattle.vx_types.specs.TypeTree.{TypeKind, TypeTree, TypeTrees, fixed_kind, fixed_type, is_int_kind, list_kind, list_type, map_kind, struct_kind, is_entry_kind}
use Rattle.vx_types.specs.declared.nullability.Nullability.{Nullability}
use Rattle.vx_offsets.specs.Offsets.{items_in, lists_at, offset_positions}
use Rattle.vx_model.specs.FixedSizeList.{FixedParts, fixed_column, fixed_fault, fixed_spans, runs_from}
use Rattle.vx_model.specs.List.{ListParts, list_column, list_fault, list_spans}
use Rattle.vx_model.specs.ListView.{ListViewParts, listview_fault, listview_spans, view_spans}
use Rattle.vx_model.specs.Map.{map_column, map_of}
use Rattle.vx_model.specs.Lists.{list_row, lists_of}
use Rattle.vx_model.specs.Numbers.{integers_of}
use Rattle.vx_model.specs.Records.{RecordParts}
use Rattle.vx_model.specs.Valid.{Valid, non_nullable, stored_rows}
use Rattle.vx_model.specs.VarBin.{are_integers}
use Rattle.vx_offsets.proofs.Cuts.{positions_back}
use Rattle.vx_lists.proofs.Joined.{cut_again, sums_more}
use Rattle.vx_lists.proofs.MadeLists.{planned_lists}
use Rattle.vx_lists.specs.Sums.{concat_lists, offsets_of}
use Rattle.vx_column.specs.Cell.{row_of}
use Rattle.vx_column.specs.declared.cell.Cell.{Cell}
use Rattle.vx_interleave.specs.Lists.{AddsRows, AreShown, CutsLists, JoinsFixed, JoinsLists, elements_in, elements_of}
use Rattle.vx_interleave.specs.Rows.{AreCellsOf, IsCellOf, IsValidityOf, rows_in, shown_as, stored_as}
use Rattle.vx_interleave.proofs.CellRows.{map_cells}
use Rattle.vx_interleave.proofs.ListCells.{fixed-cell, list-cell, map-cell}
use Rattle.vx_interleave.proofs.FixedSpans.{fixed_sound, runs-spans}
use Rattle.vx_interleave.proofs.Shown.{fits, shown}
use Rattle.vx_interleave.proofs.ViewSpans.{views-spans, views_sound}

-- ---- rows that are shown

pub shown_none : (t : TypeTree) → AreShown t [] []
shown_none t = record { of_kind = All-nil (IsCellOf t.kind); rows = refl }

length-shown : (t : TypeTree) (rows : List RowValue) (items : List Cell) → AreShown t rows items → length items ≡ length rows
length-shown t rows items h = sym (length-map items row_of) ∙ sym (length-map (rows_in items) (shown_as t)) ∙ ap length h.rows

concat-more : (lists : List (List RowValue)) (l : List RowValue) → concat_lists (lists ++ l ∷ []) ≡ concat_lists lists ++ l
concat-more lists l = flat_map-append (λ (x : List RowValue). x) lists (l ∷ []) ∙ ap (λ x. concat_lists lists ++ x) (append-nil l)

-- ---- lists, one more at a time

pub joins_none : (t : TypeTree) (starts : List ℕ) (items : List Cell) → starts ≡ [] → items ≡ [] → JoinsLists t [] starts items
joins_none t starts items a b =
    subst (λ (s : List ℕ). JoinsLists t [] s items) (sym a)
    (subst (λ (l : List Cell). JoinsLists t [] [] l) (sym b) (record { elements = shown_none t; sums = refl }))

pub joins_more : (t : TypeTree) (lists : List (List RowValue)) (l : List RowValue) (starts new_starts : List ℕ) (items new : List Cell) → JoinsLists t lists starts items → AddsRows t l items new → new_starts ≡ starts ++ length items ∷ [] → JoinsLists t (lists ++ l ∷ []) new_starts new
joins_more t lists l starts new_starts items new h adds e =
    let all : AreShown t (concat_lists lists ++ l) new = adds (concat_lists lists) h.elements in
    let whole : AreShown t (concat_lists (lists ++ l ∷ [])) new = subst (λ (rows : List RowValue). AreShown t rows new) (sym (concat-more lists l)) all in
    let before : length items ≡ sum_by length lists = length-shown t (concat_lists lists) items h.elements ∙ length-flat_map (λ (x : List RowValue). x) lists in
    let after : length new ≡ 0 + sum_by length lists + length l = omega (arith, length-shown t (concat_lists lists ++ l) new all, length-append (concat_lists lists) l, length-flat_map (λ (x : List RowValue). x) lists) in
    record {
      elements = whole;
      sums =
          ap (λ s. s ++ length new ∷ []) (e ∙ h.sums)
          ∙ ap (λ n. offsets_of (map length lists) ++ n ∷ []) after
          ∙ ap (λ s. 0 ∷ s) (sym (sums_more (length {A = RowValue}) 0 lists l));
    }

pub joins_cut : (t : TypeTree) (lists : List (List RowValue)) (starts : List ℕ) (items : List Cell) (rows : List RowValue) → JoinsLists t lists starts items → rows ≡ map (shown_as t) (rows_in items) → CutsLists lists starts rows
joins_cut t lists starts items rows h e =
    let same : rows ≡ concat_lists lists = e ∙ h.elements.rows in
    record {
      elements_are = same;
      sums = ap (λ n. starts ++ n ∷ []) (ap length same ∙ sym (length-shown t (concat_lists lists) items h.elements)) ∙ h.sums;
    }

-- ---- the column of lists

pub integers : (o : RecordParts) → is_int_kind o.kind ≡ true → o.valid ≡ non_nullable → are_integers o ≡ true
integers o int there = rw (int, there) refl

lists_shown : (k : TypeKind) (n : Nullability) (elements : RowValue → List RowValue) (items : List Cell) (lists : List (List RowValue)) (v : Valid) → AreCellsOf k items → ((c : Cell) → IsCellOf k c → list_row (elements (row_of c)) ≡ stored_as k (row_of c)) → IsValidityOf n (rows_in items) v → lists ≡ map elements (rows_in items) → stored_rows v (map list_row lists) ≡ map (shown_as (record { kind = k; nullability = n })) (rows_in items)
lists_shown k n elements items lists v cells each valid is =
    shown n k (rows_in items) (map list_row lists) v valid
    (ap (map list_row) is ∙ map-map list_row elements (rows_in items) ∙ map_cells (λ x. list_row (elements x)) (stored_as k) k items cells each)

module _ (p : ListParts) (starts : List ℕ) (n : Nullability) (items : List Cell) (cells : AreCellsOf (list_kind p.elements.dtype.kind p.elements.dtype.nullability) items) (valid : IsValidityOf n (rows_in items) p.valid) (int : are_integers p.offsets ≡ true) (numbers : integers_of p.offsets ≡ map pos (starts ++ length p.elements.rows ∷ [])) (cut : CutsLists (map elements_in (rows_in items)) starts p.elements.rows) where
  abbrev lists : List (List RowValue)
  lists = map elements_in (rows_in items)

  made : (list_fault p ≡ None) × (lists_of (list_spans p) ≡ lists)
  made =
      (planned_lists p.offsets p.valid (starts ++ length p.elements.rows ∷ []) p.elements.rows lists int numbers
      (record { sums = cut.sums; elements = cut.elements_are })
      (fits n (rows_in items) p.valid (length lists) valid (length-map (rows_in items) elements_in))).makes p.elements refl

  pub lists_sound : list_fault p ≡ None
  lists_sound = made.0

  pub lists_rows : (list_column p).rows ≡ map (shown_as (list_type p.elements.dtype n)) (rows_in items)
  lists_rows = lists_shown (list_kind p.elements.dtype.kind p.elements.dtype.nullability) n elements_in items (lists_of (list_spans p)) p.valid cells (list-cell p.elements.dtype.kind p.elements.dtype.nullability) valid made.1

-- ---- list views

module _ (p : ListViewParts) (starts : List ℕ) (n : Nullability) (items : List Cell) (valid : IsValidityOf n (rows_in items) p.valid) (offsets_int : are_integers p.offsets ≡ true) (sizes_int : are_integers p.sizes ≡ true) (offsets : integers_of p.offsets ≡ map pos starts) (sizes : integers_of p.sizes ≡ map pos (map length (map elements_in (rows_in items)))) (cut : CutsLists (map elements_in (rows_in items)) starts p.elements.rows) where
  abbrev viewed : List (List RowValue)
  viewed = map elements_in (rows_in items)

  pub view_sound : listview_fault p ≡ None
  view_sound =
      views_sound p starts viewed offsets_int sizes_int offsets sizes cut.sums cut.elements_are
      (fits n (rows_in items) p.valid (length viewed) valid (length-map (rows_in items) elements_in))

  pub view_lists : lists_of (listview_spans p) ≡ viewed
  view_lists =
      ap₂ (λ a b. map (items_in p.elements.rows) (view_spans a b)) (ap offset_positions offsets ∙ positions_back starts) (ap offset_positions sizes ∙ positions_back (map length viewed))
      ∙ ap (map (items_in p.elements.rows)) (views-spans 0 starts viewed (length p.elements.rows) cut.sums)
      ∙ ap (lists_at (offsets_of (map length viewed))) cut.elements_are
      ∙ cut_again viewed

pub maps_rows : (p : ListViewParts) (names : List (List ℕ)) (ts : TypeTrees) (n : Nullability) (items : List Cell) → AreCellsOf (map_kind names ts) items → IsValidityOf n (rows_in items) p.valid → lists_of (listview_spans p) ≡ map elements_in (rows_in items) → (map_column p).rows ≡ map (shown_as (record { kind = map_kind names ts; nullability = n })) (rows_in items)
maps_rows p names ts n items cells valid is =
    lists_shown (map_kind names ts) n elements_in items (lists_of (listview_spans p)) p.valid cells (map-cell names ts) valid is

pub maps_shown : (p : ListViewParts) (k : TypeKind) (n : Nullability) (items : List Cell) → is_entry_kind k ≡ true → AreCellsOf (map_of k) items → IsValidityOf n (rows_in items) p.valid → lists_of (listview_spans p) ≡ map elements_in (rows_in items) → (map_column p).rows ≡ map (shown_as (record { kind = map_of k; nullability = n })) (rows_in items)
maps_shown p (struct_kind names ts) n items entry cells valid is = maps_rows p names ts n items cells valid is
maps_shown p k n items entry cells valid is = cc

-- ---- lists of one size

pub fixed_none : (t : TypeTree) (size : ℕ) (items : List Cell) → items ≡ [] → JoinsFixed t size [] items
fixed_none t size items e = subst (JoinsFixed t size []) (sym e) (record { elements = shown_none t; sizes = All-nil (λ (l : List RowValue). length l ≡ size) })

pub fixed_more : (t : TypeTree) (size : ℕ) (lists : List (List RowValue)) (l : List RowValue) (items new : List Cell) → JoinsFixed t size lists items → AddsRows t l items new → length l ≡ size → JoinsFixed t size (lists ++ l ∷ []) new
fixed_more t size lists l items new h adds long = record {
  elements = subst (λ (rows : List RowValue). AreShown t rows new) (sym (concat-more lists l)) (adds (concat_lists lists) h.elements);
  sizes = All-append (λ (x : List RowValue). length x ≡ size) lists (l ∷ []) h.sizes (All-cons (λ (x : List RowValue). length x ≡ size) l [] long (All-nil (λ (x : List RowValue). length x ≡ size)));
}

module _ (p : FixedParts) (n : Nullability) (items : List Cell) (cells : AreCellsOf (fixed_kind p.elements.dtype.kind p.elements.dtype.nullability p.size) items) (valid : IsValidityOf n (rows_in items) p.valid) (count : p.len ≡ length items) (rows : p.elements.rows ≡ concat_lists (map (elements_of p.elements.dtype p.size) (rows_in items))) (sizes : All (λ (l : List RowValue). length l ≡ p.size) (map (elements_of p.elements.dtype p.size) (rows_in items))) where
  abbrev fixed : List (List RowValue)
  fixed = map (elements_of p.elements.dtype p.size) (rows_in items)

  many : length fixed ≡ length (rows_in items)
  many = length-map (rows_in items) (elements_of p.elements.dtype p.size)

  long : p.len ≡ length fixed
  long = count ∙ sym (length-map items row_of) ∙ sym many

  pub fixed_lists_sound : fixed_fault p ≡ None
  fixed_lists_sound = fixed_sound p fixed sizes long rows (fits n (rows_in items) p.valid (length fixed) valid many)

  pub fixed_lists_rows : (fixed_column p).rows ≡ map (shown_as (fixed_type p.elements.dtype p.size n)) (rows_in items)
  fixed_lists_rows =
      lists_shown (fixed_kind p.elements.dtype.kind p.elements.dtype.nullability p.size) n (elements_of p.elements.dtype p.size) items (lists_of (fixed_spans p)) p.valid cells (fixed-cell p.elements.dtype p.size) valid
      (ap (λ m. map (items_in p.elements.rows) (runs_from 0 p.size m)) long
      ∙ ap (map (items_in p.elements.rows)) (runs-spans 0 p.size fixed sizes)
      ∙ ap (lists_at (offsets_of (map length fixed))) rows
      ∙ cut_again fixed)
