-- Lists over other columns of elements: the same elements stored otherwise, and those of a slice.
use Rattle.std.proofs.Common.{◌≡◌, ℕ, zero, suc, ◌+◌, ◌-◌, ◌*◌, ◌≤◌, true, false, List, ◌∷◌, map, length, take, drop, slice_range, None, refl, sym, ap, ap₂, ◌∙◌, arith}
use Rattle.std.specs.Prelude.{◌==◌}
use Rattle.std.proofs.lemmas.Bool.Decides.{nat_tests}
use Rattle.vx_offsets.specs.Offsets.{items_in}
use Rattle.vx_model.specs.Column.{Column}
use Rattle.vx_model.specs.FixedSizeList.{FixedParts, fixed_fault, fixed_spans, runs_from}
use Rattle.vx_model.specs.List.{ListParts, list_fault, list_spans}
use Rattle.vx_model.specs.ListView.{ListViewParts, listview_fault, listview_spans}
use Rattle.vx_model.specs.Lists.{ListsParts, list_row, lists_column, lists_of, stored_lists}
use Rattle.vx_model.specs.Plain.{is_in_place, is_lazy_layout}
use Rattle.vx_model.specs.Step.{IsStep}
use Rattle.vx_model.specs.Valid.{Valid, is_fitting, nullability_by, present_bits, shown_rows, stored_rows, IsLeft}
use Rattle.vx_bits.proofs.Cuts.{cut_of_cut}
use Rattle.vx_model.proofs.Items.{map-slice_range, length-slice_range}
use Rattle.vx_model.proofs.ListRows.{alike-view_parts, elements-fixed, integers-list, natural-view_offsets, offsets-list, sizes-listview, spans-fixed, spans-list, spans-listview, types-listview}
use Rattle.vx_model.proofs.ListSteps.{is_step-lists}
use Rattle.vx_model.proofs.ShownRows.{length-present_bits}

-- ---- the same rows

-- the same spans of the same elements are the same lists
pub lists-same : (p q : ListsParts) → q.spans ≡ p.spans → q.elements.rows ≡ p.elements.rows → lists_of q ≡ lists_of p
lists-same p q spans rows = ap₂ (λ xs ys. map (items_in ys) xs) spans rows

-- the same lists under a validity that says the same
pub is_same-lists : (p q : ListsParts) → is_in_place p.layout ≡ false → is_lazy_layout q.layout ≡ false → q.kind ≡ p.kind → is_fitting p.valid (length (stored_lists p).items) ≡ true → lists_of q ≡ lists_of p → IsLeft p.valid (nullability_by p.valid) (present_bits p.valid (length (stored_lists p).items)) q.valid → IsStep (lists_column p) (lists_column p).rows (lists_column p).dtype (lists_column q)
is_same-lists p q from to kind fit lists left =
    let n = length (stored_lists p).items in
    is_step-lists p q from to kind (lists_column p).rows (nullability_by p.valid) (present_bits p.valid n)
    (ap (λ xs. stored_rows q.valid (map list_row xs)) lists
    ∙ ap (λ b. shown_rows b (stored_lists p).items) (ap (present_bits q.valid) (sym (length-present_bits p.valid n fit)) ∙ left.bits))
    left

-- the parts stay sound
pub fault-list-same : (p : ListParts) (e : Column) (v : Valid) → list_fault p ≡ None → e.rows ≡ p.elements.rows → is_fitting v (length (list_spans p).spans) ≡ true → list_fault (record { elements = e; offsets = p.offsets; valid = v }) ≡ None
fault-list-same p e v h rows fit =
    rw (integers-list p h, ap (is_fitting v) (sym (spans-list p)) ∙ fit, rows, offsets-list p h) refl

pub fault-listview-same : (p : ListViewParts) (e : Column) (v : Valid) → listview_fault p ≡ None → e.rows ≡ p.elements.rows → is_fitting v (length (listview_spans p).spans) ≡ true → listview_fault (record { elements = e; offsets = p.offsets; sizes = p.sizes; valid = v }) ≡ None
fault-listview-same p e v h rows fit =
    rw (types-listview p h, alike-view_parts p h, ap (is_fitting v) (sym (spans-listview p h)) ∙ fit, natural-view_offsets p h, rows, sizes-listview p h) refl

pub fault-fixed-same : (p : FixedParts) (e : Column) (v : Valid) → fixed_fault p ≡ None → e.rows ≡ p.elements.rows → is_fitting v (length (fixed_spans p).spans) ≡ true → fixed_fault (record { elements = e; size = p.size; len = p.len; valid = v }) ≡ None
fault-fixed-same p e v h rows fit =
    let long : length e.rows ≡ p.size * p.len = ap length rows ∙ elements-fixed p h in
    let same : (length e.rows == p.size * p.len) ≡ true = grind (arith, nat_tests) in
    rw (same, ap (is_fitting v) (sym (spans-fixed p)) ∙ fit) refl

-- ---- lists of one size

-- rows of a slice are rows behind where it begins
slice-slice : {X : Type 0} (xs : List X) (a b s e : ℕ) → s ≤ e → e ≤ b - a → slice_range (slice_range xs a b) s e ≡ slice_range xs (a + s) (a + e)
slice-slice xs a b s e h l =
    let same : e - s ≡ a + e - (a + s) = omega arith in
    sym (cut_of_cut xs a (b - a) s e h l) ∙ ap (λ n. take n (drop (a + s) xs)) same

runs_shift : {X : Type 0} (xs : List X) (a b start size len : ℕ) → start + size * len ≤ b - a → map (items_in (slice_range xs a b)) (runs_from start size len) ≡ map (items_in xs) (runs_from (a + start) size len)
runs_shift xs a b start size zero h = refl
runs_shift xs a b start size (suc len) h =
    let here : start + size ≤ b - a = grind arith in
    let rest : start + size + size * len ≤ b - a = grind arith in
    let next : a + (start + size) ≡ a + start + size = omega arith in
    ap₂ ◌∷◌
    (slice-slice xs a b start (start + size) (omega arith) here ∙ ap (slice_range xs (a + start)) next)
    (runs_shift xs a b (start + size) size len rest ∙ ap (λ k. map (items_in xs) (runs_from k size len)) next)

drop_runs : (start size len s : ℕ) → drop s (runs_from start size len) ≡ runs_from (start + s * size) size (len - s)
drop_runs start size len zero =
    ap₂ (λ k n. runs_from k size n) (let e : start ≡ start + 0 * size = grind arith in e) (let e : len ≡ len - 0 = omega arith in e)
drop_runs start size zero (suc s) = ap (runs_from (start + suc s * size) size) (let e : 0 ≡ 0 - suc s = omega arith in e)
drop_runs start size (suc len) (suc s) =
    drop_runs (start + size) size len s
    ∙ ap₂ (λ k n. runs_from k size n) (let e : start + size + s * size ≡ start + suc s * size = grind arith in e) (let e : len - s ≡ suc len - suc s = omega arith in e)

take_runs : (start size len k : ℕ) → k ≤ len → take k (runs_from start size len) ≡ runs_from start size k
take_runs start size len zero h = refl
take_runs start size zero (suc k) h = absurd (omega arith)
take_runs start size (suc len) (suc k) h = ap (λ l. (start, start + size) ∷ l) (take_runs (start + size) size len k (omega arith))

slice_runs : (size len s e : ℕ) → s ≤ e → e ≤ len → slice_range (runs_from 0 size len) s e ≡ runs_from (0 + s * size) size (e - s)
slice_runs size len s e h l = ap (take (e - s)) (drop_runs 0 size len s) ∙ take_runs (0 + s * size) size (len - s) (e - s) (omega arith)

module _ (p : FixedParts) (e : Column) (s t : ℕ) (h : fixed_fault p ≡ None) (o : s ≤ t) (l : t ≤ p.len) (rows : e.rows ≡ slice_range p.elements.rows (s * p.size) (t * p.size)) where
  -- the elements of a slice are as many as its lists have
  elements-slice : length e.rows ≡ p.size * (t - s)
  elements-slice =
      let within : t * p.size ≤ length p.elements.rows = grind (arith, elements-fixed p h) in
      let ordered : s * p.size ≤ t * p.size = grind arith in
      ap length rows ∙ length-slice_range p.elements.rows (s * p.size) (t * p.size) ordered within ∙ (let e : t * p.size - s * p.size ≡ p.size * (t - s) = grind arith in e)

  pub fault-fixed-slice : (v : Valid) → is_fitting v (t - s) ≡ true → fixed_fault (record { elements = e; size = p.size; len = t - s; valid = v }) ≡ None
  fault-fixed-slice v fit =
      let same : (length e.rows == p.size * (t - s)) ≡ true = grind (arith, nat_tests, elements-slice) in
      rw (same, fit) refl

  pub lists-fixed-slice : (v : Valid) → lists_of (fixed_spans (record { elements = e; size = p.size; len = t - s; valid = v })) ≡ slice_range (lists_of (fixed_spans p)) s t
  lists-fixed-slice v =
      let room : 0 + p.size * (t - s) ≤ t * p.size - s * p.size = grind arith in
      let at : s * p.size + 0 ≡ 0 + s * p.size = omega arith in
      ap (λ xs. map (items_in xs) (runs_from 0 p.size (t - s))) rows
      ∙ runs_shift p.elements.rows (s * p.size) (t * p.size) 0 p.size (t - s) room
      ∙ ap (λ k. map (items_in p.elements.rows) (runs_from k p.size (t - s))) at
      ∙ ap (map (items_in p.elements.rows)) (sym (slice_runs p.size p.len s t o l))
      ∙ map-slice_range (items_in p.elements.rows) (runs_from 0 p.size p.len) s t
