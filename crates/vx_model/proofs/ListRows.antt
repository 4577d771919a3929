-- The rows of the layouts of lists.
use Rattle.std.proofs.Common.{◌≡◌, ℕ, ◌+◌, ◌-◌, ◌*◌, ◌<◌, ◌≤◌, Bool, true, false, [], length, get_or, slice_range, None, Some, refl, sym, ap, ◌∙◌, arith}
use Rattle.std.specs.Prelude.{if◌then◌else◌, pos, ◌==◌}
use Rattle.std.specs.List.{list_all}
use Rattle.std.proofs.lemmas.Bool.Decides.{nat_tests}
use Rattle.std.proofs.lemmas.List.{length-map, get_or-map}
use Rattle.vx_types.specs.RowValue.{RowValue, null}
use Rattle.vx_types.specs.TypeTree.{TypeTree, is_carried}
use Rattle.vx_types.specs.declared.nullability.Nullability.{Nullability}
use Rattle.vx_types.specs.declared.error.ColumnError.{ColumnError}
use Rattle.vx_types.specs.declared.error.ColumnError.TheVariants.{WrongType, WrongLength, BadValidity, BadOffsets, BadSizes}
use Rattle.vx_offsets.specs.Offsets.{are_offsets, items_in, offset_positions, are_views, is_natural}
use Rattle.vx_positions.specs.Positions.{position_of}
use Rattle.vx_offsets.proofs.Ascending.{offset_ascends, offset_value, offset_within}
use Rattle.vx_model.specs.Valid.{is_fitting, is_present}
use Rattle.vx_model.specs.Numbers.{integer_by, integers_of}
use Rattle.vx_model.specs.FixedSizeList.{FixedParts, fixed_fault, fixed_of, fixed_spans, fixed_column}
use Rattle.vx_model.specs.List.{ListParts, list_fault, list_of, list_spans, list_column}
use Rattle.vx_model.specs.ListView.{ListViewParts, are_as_many, are_sizes, are_view_types, listview_fault, listview_spans, listview_column}
use Rattle.vx_model.specs.Lists.{ListsParts, list_row, lists_of, stored_lists, lists_column}
use Rattle.vx_model.specs.VarBin.{are_integers, row_count}
use Rattle.vx_model.proofs.Spans.{length-spans, get_or-spans, length-view_spans, get_or-view_spans, views_within, length-runs_from, get_or-runs_from, run_within}
use Rattle.vx_offsets.proofs.Naturals.{natural_value}
use Rattle.vx_model.proofs.StoredRows.{length-stored_rows, get_or-stored_rows}
use Rattle.std.specs.Cmp.{first_so, second_so}

-- ---- any of them

-- the type is one that a column may have where the elements' is
pub carried-list : (e : TypeTree) (n : Nullability) (t : TypeTree) → t ≡ record { kind = list_of e; nullability = n } → is_carried e ≡ true → is_carried t ≡ true
carried-list e n t h k = ap is_carried h ∙ k

pub carried-fixed : (e : TypeTree) (size : ℕ) (n : Nullability) (t : TypeTree) → t ≡ record { kind = fixed_of e size; nullability = n } → is_carried e ≡ true → is_carried t ≡ true
carried-fixed e size n t h k = ap is_carried h ∙ k

pub items-lists : (p : ListsParts) → length (stored_lists p).items ≡ length p.spans
items-lists p = length-map (lists_of p) list_row ∙ length-map p.spans (items_in p.elements.rows)

pub fits-lists : (p : ListsParts) → is_fitting p.valid (length p.spans) ≡ true → is_fitting p.valid (length (stored_lists p).items) ≡ true
fits-lists p h = ap (is_fitting p.valid) (items-lists p) ∙ h

pub length-lists : (p : ListsParts) → is_fitting p.valid (length p.spans) ≡ true → length (lists_column p).rows ≡ length p.spans
length-lists p h = length-stored_rows p.valid (stored_lists p).items (fits-lists p h) ∙ items-lists p

row-lists : (p : ListsParts) (i : ℕ) → is_fitting p.valid (length p.spans) ≡ true → i < length p.spans → get_or (lists_column p).rows i null ≡ (if is_present p.valid i then list_row (items_in p.elements.rows (get_or p.spans i (0, 0))) else null)
row-lists p i h l =
    get_or-stored_rows p.valid (stored_lists p).items i (fits-lists p h) (omega (arith, l, items-lists p))
    ∙ ap (λ (x : RowValue). if is_present p.valid i then x else null)
    (get_or-map list_row (lists_of p) i [] null (omega (arith, l, length-map p.spans (items_in p.elements.rows)))
    ∙ ap list_row (get_or-map (items_in p.elements.rows) p.spans i (0, 0) [] l))

-- row i, where it is there and where it isn't
pub shown-lists : (p : ListsParts) (i s e : ℕ) → is_fitting p.valid (length p.spans) ≡ true → i < length p.spans → is_present p.valid i ≡ true → get_or p.spans i (0, 0) ≡ (s, e) → list_row (slice_range p.elements.rows s e) ≡ get_or (lists_column p).rows i null
shown-lists p i s e h l there is =
    ap (λ (x : ℕ × ℕ). list_row (items_in p.elements.rows x)) (sym is)
    ∙ ap (λ (b : Bool). if b then list_row (items_in p.elements.rows (get_or p.spans i (0, 0))) else null) (sym there)
    ∙ sym (row-lists p i h l)

pub hidden-lists : (p : ListsParts) (i : ℕ) → is_fitting p.valid (length p.spans) ≡ true → i < length p.spans → is_present p.valid i ≡ false → null ≡ get_or (lists_column p).rows i null
hidden-lists p i h l gone =
    ap (λ (b : Bool). if b then list_row (items_in p.elements.rows (get_or p.spans i (0, 0))) else null) (sym gone)
    ∙ sym (row-lists p i h l)

-- what a proof about any of these layouts needs
pub ruleset any_lists = (length-lists, shown-lists, hidden-lists)

-- ---- tests in a row, of which the first that fails tells the fault

module _ (first second third : ColumnError) (a b c : Bool) (h : (if a then (if b then (if c then None else Some third) else Some second) else Some first) ≡ None) where
  pub holds_1 : a ≡ true
  holds_1 = by a b c h
    where
      by : (a b c : Bool) → (if a then (if b then (if c then None else Some third) else Some second) else Some first) ≡ None → a ≡ true
      by true b c h = refl
      by false b c h = cc

  pub holds_2 : b ≡ true
  holds_2 = by a b c h
    where
      by : (a b c : Bool) → (if a then (if b then (if c then None else Some third) else Some second) else Some first) ≡ None → b ≡ true
      by true true c h = refl
      by true false c h = cc
      by false b c h = cc

  pub holds_3 : c ≡ true
  holds_3 = by a b c h
    where
      by : (a b c : Bool) → (if a then (if b then (if c then None else Some third) else Some second) else Some first) ≡ None → c ≡ true
      by true true true h = refl
      by true true false h = cc
      by true false c h = cc
      by false b c h = cc

-- ---- `List`

module _ (p : ListParts) (h : list_fault p ≡ None) where
  pub integers-list : are_integers p.offsets ≡ true
  integers-list = holds_1 WrongType BadValidity BadOffsets (are_integers p.offsets) (is_fitting p.valid (row_count p.offsets)) (are_offsets (integers_of p.offsets) (length p.elements.rows)) h

  pub fitting-list : is_fitting p.valid (row_count p.offsets) ≡ true
  fitting-list = holds_2 WrongType BadValidity BadOffsets (are_integers p.offsets) (is_fitting p.valid (row_count p.offsets)) (are_offsets (integers_of p.offsets) (length p.elements.rows)) h

  pub offsets-list : are_offsets (integers_of p.offsets) (length p.elements.rows) ≡ true
  offsets-list = holds_3 WrongType BadValidity BadOffsets (are_integers p.offsets) (is_fitting p.valid (row_count p.offsets)) (are_offsets (integers_of p.offsets) (length p.elements.rows)) h

-- there are as many spans as rows
pub spans-list : (p : ListParts) → length (list_spans p).spans ≡ row_count p.offsets
spans-list p =
    let zs = integers_of p.offsets in
    length-spans (offset_positions zs)
    ∙ ap (λ n. n - 1) (length-map zs position_of ∙ length-map p.offsets.records (integer_by p.offsets.kind))

module _ (p : ListParts) (h : list_fault p ≡ None) where
  numbers-list : length (integers_of p.offsets) ≡ length p.offsets.records
  numbers-list = length-map p.offsets.records (integer_by p.offsets.kind)

  positions-list : length (offset_positions (integers_of p.offsets)) ≡ length p.offsets.records
  positions-list = length-map (integers_of p.offsets) position_of ∙ numbers-list

  pub fit-list : is_fitting p.valid (length (list_spans p).spans) ≡ true
  fit-list = ap (is_fitting p.valid) (spans-list p) ∙ fitting-list p h

  pub rows-list : length (list_column p).rows ≡ length (list_spans p).spans
  rows-list = length-lists (list_spans p) fit-list

  pub count-list : length (list_column p).rows ≡ row_count p.offsets
  count-list = rows-list ∙ spans-list p

  pub shown-list : (i s e : ℕ) → i < length (list_spans p).spans → is_present p.valid i ≡ true → get_or (list_spans p).spans i (0, 0) ≡ (s, e) → list_row (slice_range p.elements.rows s e) ≡ get_or (list_column p).rows i null
  shown-list i s e l there is = shown-lists (list_spans p) i s e fit-list l there is

  pub hidden-list : (i : ℕ) → i < length (list_spans p).spans → is_present p.valid i ≡ false → null ≡ get_or (list_column p).rows i null
  hidden-list i l gone = hidden-lists (list_spans p) i fit-list l gone

  -- an offset, and where a row begins and ends
  pub offset-list : (i : ℕ) → i < length p.offsets.records → pos (get_or (offset_positions (integers_of p.offsets)) i 0) ≡ integer_by p.offsets.kind (get_or p.offsets.records i [])
  offset-list i l =
      offset_value (length p.elements.rows) (integers_of p.offsets) i (offsets-list p h) (omega (arith, l, numbers-list))
      ∙ get_or-map (integer_by p.offsets.kind) p.offsets.records i [] (pos 0) l

  pub within-list : (i : ℕ) → i < length p.offsets.records → get_or (offset_positions (integers_of p.offsets)) i 0 ≤ length p.elements.rows
  within-list i l = offset_within (length p.elements.rows) (integers_of p.offsets) i (offsets-list p h) (omega (arith, l, numbers-list))

  pub ascends-list : (i : ℕ) → i + 1 < length p.offsets.records → get_or (offset_positions (integers_of p.offsets)) i 0 ≤ get_or (offset_positions (integers_of p.offsets)) (i + 1) 0
  ascends-list i l = offset_ascends (length p.elements.rows) (integers_of p.offsets) i (offsets-list p h) (omega (arith, l, numbers-list))

  pub ends-list : (i : ℕ) → i < length (list_spans p).spans → i + 1 < length p.offsets.records
  ends-list i l = omega (arith, l, spans-list p)

  pub span-list : (i : ℕ) → i < length (list_spans p).spans → get_or (list_spans p).spans i (0, 0) ≡ (get_or (offset_positions (integers_of p.offsets)) i 0, get_or (offset_positions (integers_of p.offsets)) (i + 1) 0)
  span-list i l = get_or-spans (offset_positions (integers_of p.offsets)) i (omega (arith, ends-list i l, positions-list))

pub ruleset list_rows = (carried-list, integers-list, fitting-list, fit-list, rows-list, count-list, spans-list, shown-list, hidden-list)

pub ruleset list_offsets = (integers-list, offset-list, within-list, ascends-list, ends-list, span-list)

-- ---- `ListView`

module _ (p : ListViewParts) (h : listview_fault p ≡ None) where
  all_hold : (are_view_types p ≡ true) × ((are_as_many p ≡ true) × ((is_fitting p.valid (length p.offsets.records) ≡ true) × ((list_all is_natural (integers_of p.offsets) ≡ true) × (are_sizes (integers_of p.offsets) (integers_of p.sizes) (length p.elements.rows) ≡ true))))
  all_hold = by (are_view_types p) (are_as_many p) (is_fitting p.valid (length p.offsets.records)) (list_all is_natural (integers_of p.offsets)) (are_sizes (integers_of p.offsets) (integers_of p.sizes) (length p.elements.rows)) h
    where
      by : (x y b c d : Bool) → (if x then (if y then (if b then (if c then (if d then None else Some BadSizes) else Some BadOffsets) else Some BadValidity) else Some WrongLength) else Some WrongType) ≡ None → (x ≡ true) × ((y ≡ true) × ((b ≡ true) × ((c ≡ true) × (d ≡ true))))
      by true true true true true k = (refl, (refl, (refl, (refl, refl))))
      by true true true true false k = cc
      by true true true false d k = cc
      by true true false c d k = cc
      by true false b c d k = cc
      by false y b c d k = cc

  pub types-listview : are_view_types p ≡ true
  types-listview = all_hold.0

  pub alike-view_parts : are_as_many p ≡ true
  alike-view_parts = all_hold.1.0

  pub sizes-listview : are_sizes (integers_of p.offsets) (integers_of p.sizes) (length p.elements.rows) ≡ true
  sizes-listview = all_hold.1.1.1.1

  pub integers-view_offsets : are_integers p.offsets ≡ true
  integers-view_offsets = first_so (are_integers p.offsets) _ all_hold.0

  pub integers-view_sizes : are_integers p.sizes ≡ true
  integers-view_sizes = second_so (are_integers p.offsets) _ all_hold.0

  pub many-listview : length p.offsets.records ≡ length p.sizes.records
  many-listview = let same = all_hold.1.0 in grind (arith, nat_tests)

  pub fitting-listview : is_fitting p.valid (length p.offsets.records) ≡ true
  fitting-listview = all_hold.1.1.0

  pub natural-view_offsets : list_all is_natural (integers_of p.offsets) ≡ true
  natural-view_offsets = all_hold.1.1.1.0

  natural-view_sizes : list_all is_natural (integers_of p.sizes) ≡ true
  natural-view_sizes = first_so (list_all is_natural (integers_of p.sizes)) _ all_hold.1.1.1.1

  views-listview : are_views (offset_positions (integers_of p.offsets)) (offset_positions (integers_of p.sizes)) (length p.elements.rows) ≡ true
  views-listview = second_so (list_all is_natural (integers_of p.sizes)) _ all_hold.1.1.1.1

  numbers-view_offsets : length (integers_of p.offsets) ≡ length p.offsets.records
  numbers-view_offsets = length-map p.offsets.records (integer_by p.offsets.kind)

  numbers-view_sizes : length (integers_of p.sizes) ≡ length p.sizes.records
  numbers-view_sizes = length-map p.sizes.records (integer_by p.sizes.kind)

  positions-view_offsets : length (offset_positions (integers_of p.offsets)) ≡ length p.offsets.records
  positions-view_offsets = length-map (integers_of p.offsets) position_of ∙ numbers-view_offsets

  positions-view_sizes : length (offset_positions (integers_of p.sizes)) ≡ length p.sizes.records
  positions-view_sizes = length-map (integers_of p.sizes) position_of ∙ numbers-view_sizes

  alike-listview : length (offset_positions (integers_of p.offsets)) ≡ length (offset_positions (integers_of p.sizes))
  alike-listview = positions-view_offsets ∙ many-listview ∙ sym positions-view_sizes

  pub spans-listview : length (listview_spans p).spans ≡ length p.offsets.records
  spans-listview = length-view_spans (offset_positions (integers_of p.offsets)) (offset_positions (integers_of p.sizes)) alike-listview ∙ positions-view_offsets

  pub fit-listview : is_fitting p.valid (length (listview_spans p).spans) ≡ true
  fit-listview = ap (is_fitting p.valid) spans-listview ∙ fitting-listview

  pub rows-listview : length (listview_column p).rows ≡ length (listview_spans p).spans
  rows-listview = length-lists (listview_spans p) fit-listview

  pub shown-listview : (i s e : ℕ) → i < length (listview_spans p).spans → is_present p.valid i ≡ true → get_or (listview_spans p).spans i (0, 0) ≡ (s, e) → list_row (slice_range p.elements.rows s e) ≡ get_or (listview_column p).rows i null
  shown-listview i s e l there is = shown-lists (listview_spans p) i s e fit-listview l there is

  pub hidden-listview : (i : ℕ) → i < length (listview_spans p).spans → is_present p.valid i ≡ false → null ≡ get_or (listview_column p).rows i null
  hidden-listview i l gone = hidden-lists (listview_spans p) i fit-listview l gone

  pub offset-listview : (i : ℕ) → i < length p.offsets.records → pos (get_or (offset_positions (integers_of p.offsets)) i 0) ≡ integer_by p.offsets.kind (get_or p.offsets.records i [])
  offset-listview i l =
      natural_value (integers_of p.offsets) i natural-view_offsets (omega (arith, l, numbers-view_offsets))
      ∙ get_or-map (integer_by p.offsets.kind) p.offsets.records i [] (pos 0) l

  pub size-listview : (i : ℕ) → i < length p.sizes.records → pos (get_or (offset_positions (integers_of p.sizes)) i 0) ≡ integer_by p.sizes.kind (get_or p.sizes.records i [])
  size-listview i l =
      natural_value (integers_of p.sizes) i natural-view_sizes (omega (arith, l, numbers-view_sizes))
      ∙ get_or-map (integer_by p.sizes.kind) p.sizes.records i [] (pos 0) l

  pub within-listview : (i : ℕ) → i < length (listview_spans p).spans → get_or (offset_positions (integers_of p.offsets)) i 0 + get_or (offset_positions (integers_of p.sizes)) i 0 ≤ length p.elements.rows
  within-listview i l =
      views_within (offset_positions (integers_of p.offsets)) (offset_positions (integers_of p.sizes)) (length p.elements.rows) i views-listview alike-listview
      (omega (arith, l, spans-listview, positions-view_offsets))

  pub span-listview : (i : ℕ) → i < length (listview_spans p).spans → get_or (listview_spans p).spans i (0, 0) ≡ (get_or (offset_positions (integers_of p.offsets)) i 0, get_or (offset_positions (integers_of p.offsets)) i 0 + get_or (offset_positions (integers_of p.sizes)) i 0)
  span-listview i l =
      get_or-view_spans (offset_positions (integers_of p.offsets)) (offset_positions (integers_of p.sizes)) i alike-listview
      (omega (arith, l, spans-listview, positions-view_offsets))

pub ruleset listview_rows = (carried-list, many-listview, fitting-listview, fit-listview, rows-listview, spans-listview, shown-listview, hidden-listview)

pub ruleset listview_offsets = (integers-view_offsets, integers-view_sizes, many-listview, spans-listview, offset-listview, size-listview, within-listview, span-listview)

-- ---- `FixedSizeList`

module _ (p : FixedParts) (h : fixed_fault p ≡ None) where
  both-fixed : (length p.elements.rows ≡ p.size * p.len) × (is_fitting p.valid p.len ≡ true)
  both-fixed = by (length p.elements.rows == p.size * p.len) (is_fitting p.valid p.len) refl h
    where
      by : (a b : Bool) → (length p.elements.rows == p.size * p.len) ≡ a → (if a then (if b then None else Some BadValidity) else Some WrongLength) ≡ None → (length p.elements.rows ≡ p.size * p.len) × (b ≡ true)
      by true true e k = (grind (arith, nat_tests), refl)
      by true false e k = cc
      by false b e k = cc

  pub elements-fixed : length p.elements.rows ≡ p.size * p.len
  elements-fixed = both-fixed.0

  pub fitting-fixed : is_fitting p.valid p.len ≡ true
  fitting-fixed = both-fixed.1

  pub fit-fixed : is_fitting p.valid (length (fixed_spans p).spans) ≡ true
  fit-fixed = ap (is_fitting p.valid) (length-runs_from 0 p.size p.len) ∙ fitting-fixed

  pub rows-fixed : length (fixed_column p).rows ≡ length (fixed_spans p).spans
  rows-fixed = length-lists (fixed_spans p) fit-fixed

  pub shown-fixed : (i s e : ℕ) → i < length (fixed_spans p).spans → is_present p.valid i ≡ true → get_or (fixed_spans p).spans i (0, 0) ≡ (s, e) → list_row (slice_range p.elements.rows s e) ≡ get_or (fixed_column p).rows i null
  shown-fixed i s e l there is = shown-lists (fixed_spans p) i s e fit-fixed l there is

  pub hidden-fixed : (i : ℕ) → i < length (fixed_spans p).spans → is_present p.valid i ≡ false → null ≡ get_or (fixed_column p).rows i null
  hidden-fixed i l gone = hidden-lists (fixed_spans p) i fit-fixed l gone

  pub within-fixed : (i : ℕ) → i < length (fixed_spans p).spans → i * p.size + p.size ≤ length p.elements.rows
  within-fixed i l = omega (arith, elements-fixed, run_within p.size p.len i (omega (arith, l, length-runs_from 0 p.size p.len)))

pub spans-fixed : (p : FixedParts) → length (fixed_spans p).spans ≡ p.len
spans-fixed p = length-runs_from 0 p.size p.len

pub span-fixed : (p : FixedParts) (i : ℕ) → i < length (fixed_spans p).spans → get_or (fixed_spans p).spans i (0, 0) ≡ (i * p.size, i * p.size + p.size)
span-fixed p i l =
    get_or-runs_from 0 p.size p.len i (omega (arith, l, spans-fixed p))
    ∙ ap (λ k. (k, k + p.size)) (let e : 0 + i * p.size ≡ i * p.size = grind arith in e)

pub ruleset fixed_rows = (carried-fixed, elements-fixed, fitting-fixed, fit-fixed, rows-fixed, spans-fixed, shown-fixed, hidden-fixed)

pub ruleset fixed_runs = (spans-fixed, span-fixed, within-fixed)
