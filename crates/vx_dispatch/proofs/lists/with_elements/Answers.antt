-- The parts stay sound, and the lists stay what they are.
use Rattle.std.proofs.Common.{◌≡◌, ℕ, true, length, refl, sym, ap, ap₂, ◌∙◌}
use Rattle.vx_types.specs.TypeTree.{TypeTree}
use Rattle.vx_model.specs.Column.{Column}
use Rattle.vx_model.specs.FixedSizeList.{FixedParts, fixed_column, fixed_of, fixed_spans}
use Rattle.vx_model.specs.List.{ListParts, list_column, list_of, list_spans}
use Rattle.vx_model.specs.ListView.{ListViewParts, listview_column, listview_spans}
use Rattle.vx_model.specs.Lists.{lists_column}
use Rattle.vx_model.specs.ListView.{listview_fault}
use Rattle.vx_model.specs.Map.{map_column, map_of, map_spans}
use Rattle.vx_model.proofs.MapSteps.{fault-map}
use Rattle.std.proofs.Common.{None}
use Rattle.vx_model.specs.Records.{RecordParts}
use Rattle.vx_model.specs.Step.{IsStep}
use Rattle.vx_model.specs.Valid.{is_fitting, nullability_by, present_bits, IsLeft}
use Rattle.vx_model.proofs.ListForms.{fault-list-same, fault-listview-same, fault-fixed-same, lists-same}
use Rattle.vx_model.proofs.ListRows.{fit-list, fit-listview, fit-fixed}
use Rattle.vx_column.specs.Lists.{spans_of}
use Rattle.vx_column.specs.Validity.{valid_of}
use Rattle.vx_dispatch.proofs.ListSteps.{fits_same, same_step}
use Rattle.vx_dispatch.proofs.lists.with_elements.Goals as goal

pub with_parts-requires-clause-valid : goal.with_parts-requires-clause-valid
with_parts-requires-clause-valid c =
    let p = c.in-List.array.now in let w = valid_of c.args.validity in let h = c.offsets.ensures.valid in
    let left : IsLeft p.valid (nullability_by p.valid) (present_bits p.valid (length (list_spans p).spans)) w = rw c.in-List.is at c.requires.left in
    let rows : c.args.elements.rows ≡ p.elements.rows = rw c.in-List.is at c.requires.elements.rows in
    rw (c.share-offsets.ensures ∙ c.offsets.ensures.value)
    (fault-list-same p c.args.elements w h rows (fits_same p.valid w (nullability_by p.valid) (length (list_spans p).spans) (fit-list p h) left))

pub with_parts-requires-in-Fixed-clause-valid : goal.with_parts-requires-in-Fixed-clause-valid
with_parts-requires-in-Fixed-clause-valid c =
    let p = c.in-Fixed.array.now in let w = valid_of c.args.validity in let h = c.list_size.ensures.valid in
    let left : IsLeft p.valid (nullability_by p.valid) (present_bits p.valid (length (fixed_spans p).spans)) w = rw c.in-Fixed.is at c.requires.left in
    let rows : c.args.elements.rows ≡ p.elements.rows = rw c.in-Fixed.is at c.requires.elements.rows in
    rw c.len.ensures.value
    (fault-fixed-same p c.args.elements w h rows (fits_same p.valid w (nullability_by p.valid) (length (fixed_spans p).spans) (fit-fixed p h) left))

pub returns-in-List-clause-same : goal.returns-in-List-clause-same
returns-in-List-clause-same c =
    let p = c.in-List.array.now in let e = c.args.elements in let w = valid_of c.args.validity in let h = c.offsets.ensures.valid in
    let q : ListParts = record { elements = e; offsets = p.offsets; valid = w } in
    let left : IsLeft p.valid (nullability_by p.valid) (present_bits p.valid (length (list_spans p).spans)) w = rw c.in-List.is at c.requires.left in
    let rows : e.rows ≡ p.elements.rows = rw c.in-List.is at c.requires.elements.rows in
    let dtype : e.dtype ≡ p.elements.dtype = rw c.in-List.is at c.requires.elements.dtype in
    let made : c.into_array.result ≡ list_column q = c.into_array.ensures ∙ ap list_column (c.with_parts.ensures ∙ ap (λ (o : RecordParts). let x : ListParts = record { elements = e; offsets = o; valid = w } in x) (c.share-offsets.ensures ∙ c.offsets.ensures.value)) in
    rw (made, c.in-List.is)
    (same_step (list_spans p) (list_spans q) refl refl (ap list_of dtype) (fit-list p h) (lists-same (list_spans p) (list_spans q) refl rows) left)

pub returns-in-View-clause-same : goal.returns-in-View-clause-same
returns-in-View-clause-same c =
    let p = c.in-View.array.now in let e = c.args.elements in let w = valid_of c.args.validity in let h = c.views_with.ensures.valid in
    let q : ListViewParts = record p { elements = e; valid = w } in
    let left : IsLeft p.valid (nullability_by p.valid) (present_bits p.valid (length (listview_spans p).spans)) w = rw c.in-View.is at c.requires.left in
    let rows : e.rows ≡ p.elements.rows = rw c.in-View.is at c.requires.elements.rows in
    let dtype : e.dtype ≡ p.elements.dtype = rw c.in-View.is at c.requires.elements.dtype in
    let made : c.into_array-in-View.result ≡ listview_column q = c.into_array-in-View.ensures ∙ ap listview_column c.views_with.ensures.parts in
    rw (made, c.in-View.is)
    (same_step (listview_spans p) (listview_spans q) refl refl (ap list_of dtype) (fit-listview p h) (lists-same (listview_spans p) (listview_spans q) refl rows) left)

pub of_entries-requires : goal.of_entries-requires
of_entries-requires c =
    let p = c.in-Map.array.now in let e = c.args.elements in let w = valid_of c.args.validity in
    let dtype : e.dtype ≡ p.elements.dtype = rw c.in-Map.is at c.requires.elements.dtype in
    let q : ListViewParts = record p { elements = e; valid = w } in
    let same : c.views_with-in-Map.result ≡ q = c.views_with-in-Map.ensures.parts ∙ ap (λ (x : ListViewParts). let y : ListViewParts = record x { elements = e; valid = w } in y) c.entries.ensures.value in
    rw same (fault-map p q c.entries.ensures.valid dtype)

pub returns-in-Map-clause-same : goal.returns-in-Map-clause-same
returns-in-Map-clause-same c =
    let p = c.in-Map.array.now in let e = c.args.elements in let w = valid_of c.args.validity in
    let h : listview_fault p ≡ None = rw c.entries.ensures.value at c.views_with-in-Map.ensures.valid in
    let q : ListViewParts = record p { elements = e; valid = w } in
    let left : IsLeft p.valid (nullability_by p.valid) (present_bits p.valid (length (listview_spans p).spans)) w = rw c.in-Map.is at c.requires.left in
    let rows : e.rows ≡ p.elements.rows = rw c.in-Map.is at c.requires.elements.rows in
    let dtype : e.dtype ≡ p.elements.dtype = rw c.in-Map.is at c.requires.elements.dtype in
    let same : c.views_with-in-Map.result ≡ q = c.views_with-in-Map.ensures.parts ∙ ap (λ (x : ListViewParts). let y : ListViewParts = record x { elements = e; valid = w } in y) c.entries.ensures.value in
    let made : c.of_entries.result ≡ map_column q = c.of_entries.ensures ∙ ap map_column same in
    rw (made, c.in-Map.is)
    (same_step (map_spans p) (map_spans q) refl refl (ap (λ (t : TypeTree). map_of t.kind) dtype) (fit-listview p h) (lists-same (map_spans p) (map_spans q) refl rows) left)

pub returns-in-Fixed-clause-same : goal.returns-in-Fixed-clause-same
returns-in-Fixed-clause-same c =
    let p = c.in-Fixed.array.now in let e = c.args.elements in let w = valid_of c.args.validity in let h = c.list_size.ensures.valid in
    let q : FixedParts = record { elements = e; size = p.size; len = p.len; valid = w } in
    let left : IsLeft p.valid (nullability_by p.valid) (present_bits p.valid (length (fixed_spans p).spans)) w = rw c.in-Fixed.is at c.requires.left in
    let rows : e.rows ≡ p.elements.rows = rw c.in-Fixed.is at c.requires.elements.rows in
    let dtype : e.dtype ≡ p.elements.dtype = rw c.in-Fixed.is at c.requires.elements.dtype in
    let made : c.into_array-in-Fixed.result ≡ fixed_column q = c.into_array-in-Fixed.ensures ∙ ap fixed_column (c.with_parts-in-Fixed.ensures ∙ ap (λ (n : ℕ). let x : FixedParts = record { elements = e; size = p.size; len = n; valid = w } in x) c.len.ensures.value) in
    rw (made, c.in-Fixed.is)
    (same_step (fixed_spans p) (fixed_spans q) refl refl (ap (λ t. fixed_of t p.size) dtype) (fit-fixed p h) (lists-same (fixed_spans p) (fixed_spans q) refl rows) left)
