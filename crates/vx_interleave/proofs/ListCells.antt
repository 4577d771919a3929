-- Rows of lists by their cells.
use Rattle.std.proofs.Common.{◌≡◌, ℕ, zero, suc, ◌+◌, ◌-◌, ◌<◌, ◌≤◌, List, [], ◌∷◌, ◌++◌, length, get_or, take, drop, Some, refl, sym, ap, subst, ◌∙◌, add-one, arith}
use Rattle.std.specs.Prelude.{replicate, slice_range}
use Rattle.vx_types.specs.RowValue.{RowValue, null}
use Rattle.vx_types.specs.TypeTree.{TypeKind, TypeTree, TypeTrees, null_kind, bool_kind, primitive_kind, decimal_kind, utf8_kind, binary_kind, list_kind, fixed_kind, map_kind, struct_kind, union_kind, extension_kind}
use Rattle.vx_types.specs.declared.nullability.Nullability.{Nullability}
use Rattle.vx_types.specs.declared.nullability.Nullability.TheVariants.{Nullable}
use Rattle.vx_model.specs.Column.{Column}
use Rattle.vx_model.specs.Filler.{filler_row}
use Rattle.vx_model.specs.Extension.{storage_kind}
use Rattle.vx_model.specs.Lists.{elements_type, list_row}
use Rattle.vx_model.proofs.Items.{length-slice_range}
use Rattle.vx_column.specs.Cell.{AreElementsOf, row_of}
use Rattle.vx_column.specs.declared.cell.Cell.{Cell}
use Rattle.vx_column.specs.declared.cell.Cell.TheVariants as cells
use Rattle.vx_column.specs.declared.cell.ListCell.{ListCell}
use Rattle.std.proofs.lemmas.List.{length-drop, take_more}
use Rattle.vx_interleave.specs.Lists.{AddsRows, elements_in, elements_of}
use Rattle.vx_interleave.specs.Rows.{IsCellOf, shown_as, stored_as}
use Rattle.vx_interleave.specs.Sources.{IsSourceOf}
use Rattle.vx_interleave.proofs.FieldRows.{values-row_values}
use Rattle.vx_interleave.proofs.ShownRows.{adds_more, adds_none, adds_one}

pub list-cell : (k : TypeKind) (n : Nullability) (c : Cell) → IsCellOf (list_kind k n) c → list_row (elements_in (row_of c)) ≡ stored_as (list_kind k n) (row_of c)
list-cell k n cells.Null h = refl
list-cell k n (cells.List l) h = ap list_row (values-row_values (slice_range l.elements.now.rows l.start l.end))
list-cell k n (cells.Bit b) h = cc
list-cell k n (cells.Bytes b) h = let e = h.kind in cc
list-cell k n (cells.Fields f) h = let e = h.kind in cc
list-cell k n (cells.Tagged v) h = let e = h.kind in cc

pub map-cell : (names : List (List ℕ)) (ts : TypeTrees) (c : Cell) → IsCellOf (map_kind names ts) c → list_row (elements_in (row_of c)) ≡ stored_as (map_kind names ts) (row_of c)
map-cell names ts cells.Null h = refl
map-cell names ts (cells.List l) h = ap list_row (values-row_values (slice_range l.elements.now.rows l.start l.end))
map-cell names ts (cells.Bit b) h = cc
map-cell names ts (cells.Bytes b) h = let e = h.kind in cc
map-cell names ts (cells.Fields f) h = let e = h.kind in cc
map-cell names ts (cells.Tagged v) h = let e = h.kind in cc

pub fixed-cell : (t : TypeTree) (size : ℕ) (c : Cell) → IsCellOf (fixed_kind t.kind t.nullability size) c → list_row (elements_of t size (row_of c)) ≡ stored_as (fixed_kind t.kind t.nullability size) (row_of c)
fixed-cell t size cells.Null h = refl
fixed-cell t size (cells.List l) h = ap list_row (values-row_values (slice_range l.elements.now.rows l.start l.end))
fixed-cell t size (cells.Bit b) h = cc
fixed-cell t size (cells.Bytes b) h = let e = h.kind in cc
fixed-cell t size (cells.Fields f) h = let e = h.kind in cc
fixed-cell t size (cells.Tagged v) h = let e = h.kind in cc

-- ---- the elements of one list

-- lists have elements of one type, whatever extensions they are under
element-type : (k : TypeKind) (t u : TypeTree) → elements_type k ≡ Some t → elements_type (storage_kind k) ≡ Some u → t ≡ u
element-type (list_kind k n) t u h g = cc
element-type (fixed_kind k n size) t u h g = cc
element-type (map_kind names ts) t u h g = cc
element-type null_kind t u h g = cc
element-type bool_kind t u h g = cc
element-type (primitive_kind p) t u h g = cc
element-type (decimal_kind p s w) t u h g = cc
element-type utf8_kind t u h g = cc
element-type binary_kind t u h g = cc
element-type (struct_kind names ts) t u h g = cc
element-type (union_kind is names ts) t u h g = cc
element-type (extension_kind name k) t u h g = cc

pub element_source : (k : TypeKind) (t : TypeTree) (c : Column) (s e : ℕ) → elements_type k ≡ Some t → AreElementsOf (record { kind = storage_kind k; nullability = Nullable }) c s e → IsSourceOf t c
element_source k t c s e h are =
    let same : t ≡ c.dtype = element-type k t c.dtype h are.kind in
    subst (λ (u : TypeTree). IsSourceOf u c) (sym same) (record { kind = refl; nulls = λ g. g })

pub elements-list : (c : Column) (s e : ℕ) → elements_in (list_row (slice_range c.rows s e)) ≡ slice_range c.rows s e
elements-list c s e = values-row_values (slice_range c.rows s e)

pub length-list : (k : TypeKind) (c : Column) (s e : ℕ) → AreElementsOf (record { kind = storage_kind k; nullability = Nullable }) c s e → e - s ≡ length (elements_in (list_row (slice_range c.rows s e)))
length-list k c s e are = sym (ap length (elements-list c s e) ∙ length-slice_range c.rows s e are.ordered are.within)

slice-none : (rows : List RowValue) (s : ℕ) → slice_range rows s s ≡ []
slice-none rows s = let none : s - s ≡ 0 = omega arith in ap (λ n. take n (drop s rows)) none

pub none_yet : (t : TypeTree) (rows : List RowValue) (s : ℕ) (items : List Cell) → AddsRows t (slice_range rows s s) items items
none_yet t rows s items = subst (λ (l : List RowValue). AddsRows t l items items) (sym (slice-none rows s)) (adds_none t items items refl)

get-drop : (rows : List RowValue) (s n : ℕ) → get_or (drop s rows) n null ≡ get_or rows (s + n) null
get-drop [] zero n = let e : 0 + n ≡ n = omega arith in ap (λ k. get_or [] k null) (sym e)
get-drop [] (suc s) n = refl
get-drop (x ∷ rows) zero n = let e : 0 + n ≡ n = omega arith in ap (λ k. get_or (x ∷ rows) k null) (sym e)
get-drop (x ∷ rows) (suc s) n = let e : suc s + n ≡ suc (s + n) = omega arith in get-drop rows s n ∙ ap (λ k. get_or (x ∷ rows) k null) (sym e)

slice-more : (rows : List RowValue) (s r : ℕ) → s ≤ r → r < length rows → slice_range rows s (r + 1) ≡ slice_range rows s r ++ get_or rows r null ∷ []
slice-more rows s r h l =
    let next : r + 1 - s ≡ (r - s) + 1 = omega arith in
    let at : s + (r - s) ≡ r = omega arith in
    ap (λ n. take n (drop s rows)) next
    ∙ take_more (drop s rows) (r - s) null (omega (arith, length-drop s rows))
    ∙ ap (λ x. take (r - s) (drop s rows) ++ x ∷ []) (get-drop rows s (r - s) ∙ ap (λ n. get_or rows n null) at)

pub one_row : (t : TypeTree) (rows : List RowValue) (s r : ℕ) (cell : Cell) (old now new : List Cell) → s ≤ r → r < length rows → IsCellOf t.kind cell → shown_as t (row_of cell) ≡ get_or rows r null → AddsRows t (slice_range rows s r) old now → new ≡ now ++ cell ∷ [] → AddsRows t (slice_range rows s (r + 1)) old new
one_row t rows s r cell old now new h l kind is adds e =
    adds_more t (slice_range rows s r) (get_or rows r null ∷ []) (slice_range rows s (r + 1)) old now new adds (adds_one t cell (get_or rows r null) now new kind is e) (slice-more rows s r h l)

-- ---- nulls

replicate-more : (n : ℕ) (x : RowValue) → replicate (n + 1) x ≡ replicate n x ++ x ∷ []
replicate-more n x = ap (λ m. replicate m x) (add-one n) ∙ by n x
  where
    by : (n : ℕ) (x : RowValue) → replicate (suc n) x ≡ replicate n x ++ x ∷ []
    by zero x = refl
    by (suc n) x = ap (λ l. x ∷ l) (by n x)

pub no_null : (t : TypeTree) (items : List Cell) → AddsRows t (replicate 0 (filler_row t)) items items
no_null t items = adds_none t items items refl

pub one_null : (t : TypeTree) (n : ℕ) (old now new : List Cell) → AddsRows t (replicate n (filler_row t)) old now → new ≡ now ++ cells.Null ∷ [] → AddsRows t (replicate (n + 1) (filler_row t)) old new
one_null t n old now new adds e =
    adds_more t (replicate n (filler_row t)) (filler_row t ∷ []) (replicate (n + 1) (filler_row t)) old now new adds
    (adds_one t cells.Null (filler_row t) now new refl refl e) (replicate-more n (filler_row t))

pub ruleset nulls = (no_null, one_null)

-- ---- what is no list has no elements

pub no_list : (c : Cell) → ((l : ListCell) → c ≡ cells.List l → ⊥) → elements_in (row_of c) ≡ []
no_list cells.Null h = refl
no_list (cells.Bit b) h = refl
no_list (cells.Bytes b) h = refl
no_list (cells.List l) h = absurd (h l refl)
no_list (cells.Fields f) h = refl
no_list (cells.Tagged v) h = refl

pub adds_none_as : (t : TypeTree) (rows : List RowValue) (items : List Cell) → rows ≡ [] → AddsRows t rows items items
adds_none_as t rows items e = subst (λ (l : List RowValue). AddsRows t l items items) (sym e) (adds_none t items items refl)

-- the elements of a list, whatever its size
pub fixed_list : (t : TypeTree) (size : ℕ) (c : Cell) (l : ListCell) → c ≡ cells.List l → elements_in (row_of c) ≡ elements_of t size (row_of c)
fixed_list t size c l is = ap (λ (x : Cell). elements_in (row_of x)) is ∙ ap (λ (x : Cell). elements_of t size (row_of x)) (sym is)

-- and stands for as many fillers as a list of one size has elements
pub no_fixed : (t : TypeTree) (size : ℕ) (c : Cell) → ((l : ListCell) → c ≡ cells.List l → ⊥) → replicate size (filler_row t) ≡ elements_of t size (row_of c)
no_fixed t size cells.Null h = refl
no_fixed t size (cells.Bit b) h = refl
no_fixed t size (cells.Bytes b) h = refl
no_fixed t size (cells.List l) h = absurd (h l refl)
no_fixed t size (cells.Fields f) h = refl
no_fixed t size (cells.Tagged v) h = refl
