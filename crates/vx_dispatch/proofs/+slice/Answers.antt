-- A step of a layout's parts, with that of its validity, is the step of its column: slices.
use Rattle.std.proofs.Common.{◌≡◌, ◌≤◌, List, length, refl, ap, ap₂, ◌∙◌, slice_range, true, arith}
use Rattle.vx_mask.specs.Mask.{mask_bits}
use Rattle.vx_model.specs.Valid.{non_nullable, all_valid, all_invalid, by_column, is_fitting}
use Rattle.vx_model.specs.Step.{IsSlice}
use Rattle.vx_model.proofs.ShownRows.{is_left-slice}
use Rattle.vx_model.proofs.Validities.{is_left-slice-by_column}
use Rattle.vx_column.specs.Validity.{valid_of}
use Rattle.vx_model.proofs.StoredRows.{length-stored_rows}
use Rattle.vx_plain.specs.Stored.{parts_of}
use Rattle.std.proofs.Common.{take, Bool}
use Rattle.vx_bits.specs.BitBuffer.{true_count_of}
use Rattle.vx_model.specs.Column.{Column}
use Rattle.vx_model.specs.Filter.{filter_column}
use Rattle.vx_model.proofs.DictSteps.{dict_fault-slice, is_slice-dict}
use Rattle.vx_model.proofs.FilterSteps.{is_slice-filter}
use Rattle.vx_model.specs.Valid.{valid_size}
use Rattle.std.proofs.Common.{◌-◌, ◌*◌}
use Rattle.vx_types.specs.TypeTree.{TypeTree}
use Rattle.vx_model.specs.FixedSizeList.{FixedParts, fixed_column, fixed_of, fixed_spans}
use Rattle.vx_model.specs.List.{ListParts, list_of, list_spans}
use Rattle.vx_model.specs.ListView.{ListViewParts, listview_spans}
use Rattle.vx_model.specs.Valid.{nullability_by, present_bits, IsAsPlain, IsLeft}
use Rattle.vx_model.proofs.ListForms.{fault-fixed-slice, lists-fixed-slice}
use Rattle.vx_model.proofs.ListRows.{fit-fixed, fit-list, fit-listview, rows-fixed, rows-list, rows-listview, spans-fixed}
use Rattle.vx_dispatch.proofs.ListSteps.{fits_slice, slice_step}
use Rattle.vx_model.specs.Columns.{AreCuts}
use Rattle.vx_model.specs.ListView.{listview_column}
use Rattle.vx_model.specs.Struct.{StructParts}
use Rattle.vx_model.proofs.Across.{long-slice, steps-cuts, types-steps}
use Rattle.vx_model.proofs.ExtensionSteps.{fault-extension, is_cut-extension}
use Rattle.vx_model.proofs.MapSteps.{elements-step, fault-map, is_cut-map}
use Rattle.vx_model.proofs.StructSteps.{fault-struct, fitting-struct, is_slice-struct, long-struct, rows-struct}
use Rattle.vx_dispatch.proofs.EachColumn.{slices_more}
use Rattle.std.proofs.Common.{◌+◌, ◌<◌, get_or, sym, subst}
use Rattle.std.proofs.Common.{Some}
use Rattle.vx_model.specs.Records.{RecordParts, records_with}
use Rattle.vx_model.specs.Union.{UnionParts, union_column, union_fault}
use Rattle.vx_model.proofs.UnionFaults.{fault-dense-slice, fault-sparse-slice, is_slice-dense, is_slice-sparse}
use Rattle.vx_model.proofs.UnionSteps.{rows-union}
use Rattle.vx_dispatch.specs.Union.{IsUnionSlice}
use Rattle.vx_dispatch.proofs.Unions.{sliced-dense, sliced-sparse}
use Rattle.vx_dispatch.proofs.+slice.Goals as goal
use Rattle.vx_lemmas.proofs.Results.{if_ok}

pub validity::slice_validity-returns-in-NonNullable-clause-left : goal.validity::slice_validity-returns-in-NonNullable-clause-left
validity::slice_validity-returns-in-NonNullable-clause-left t c =
    rw c.in-NonNullable.is (is_left-slice non_nullable c.args.len c.args.start c.args.end refl c.requires.ordered c.requires.within refl)

pub validity::slice_validity-returns-in-AllValid-clause-left : goal.validity::slice_validity-returns-in-AllValid-clause-left
validity::slice_validity-returns-in-AllValid-clause-left t c =
    rw c.in-AllValid.is (is_left-slice all_valid c.args.len c.args.start c.args.end refl c.requires.ordered c.requires.within refl)

pub validity::slice_validity-returns-in-AllInvalid-clause-left : goal.validity::slice_validity-returns-in-AllInvalid-clause-left
validity::slice_validity-returns-in-AllInvalid-clause-left t c =
    rw c.in-AllInvalid.is (is_left-slice all_invalid c.args.len c.args.start c.args.end refl c.requires.ordered c.requires.within refl)

pub validity::slice_validity-returns-in_ok-slice-in-Array-clause-left : goal.validity::slice_validity-returns-in_ok-slice-in-Array-clause-left
validity::slice_validity-returns-in_ok-slice-in-Array-clause-left t c =
    let a = c.in-Array.array in let s = c.args.start in let e = c.args.end in
    let fit : is_fitting (by_column a) c.args.len ≡ true = rw c.in-Array.is at c.requires.fitting in
    let part = c.in_ok-slice-in-Array.field-0 in
    let cut : IsSlice a s e part = rw c.deref.ensures at c.in_ok-slice-in-Array.ensures.cut in
    let left = is_left-slice-by_column a part c.args.len s e fit c.requires.ordered c.requires.within cut in
    rw c.in-Array.is (if_ok c.from_column.result c.from_column.ensures (λ v is. rw is left))

pub dict::DictArraySliceRows::slice-recoded-requires : goal.dict::DictArraySliceRows::slice-recoded-requires
dict::DictArraySliceRows::slice-recoded-requires t c =
    let p = c.args.self.now in let codes = c.in_ok-codes.codes in
    let cut : IsSlice p.codes c.args.start c.args.end codes = rw (c.deref.ensures ∙ c.codes.ensures.value) at c.in_ok-codes.ensures.cut in
    dict_fault-slice p codes c.args.start c.args.end c.codes.ensures.valid cut

pub dict::DictArraySliceRows::slice-returns-clause-cut : goal.dict::DictArraySliceRows::slice-returns-clause-cut
dict::DictArraySliceRows::slice-returns-clause-cut t c =
    let p = c.args.self.now in let codes = c.in_ok-codes.codes in
    let cut : IsSlice p.codes c.args.start c.args.end codes = rw (c.deref.ensures ∙ c.codes.ensures.value) at c.in_ok-codes.ensures.cut in
    if_ok c.recoded.result c.recoded.ensures (λ a is. rw is (is_slice-dict p codes c.args.start c.args.end c.codes.ensures.valid cut))

pub filter_layout::FilterArraySliceRows::slice-returns-clause-cut : goal.filter_layout::FilterArraySliceRows::slice-returns-clause-cut
filter_layout::FilterArraySliceRows::slice-returns-clause-cut t c =
    let p = c.args.self.now in let child = c.in_ok-part.part in let range = c.mask_range-low in
    let low = range.result.0 in let high = range.result.1 in
    let same = ap mask_bits c.mask-mask.ensures.value in
    let cut : IsSlice p.child low high child = rw (c.deref.ensures ∙ c.child-child.ensures.value) at c.in_ok-part.ensures.cut in
    let start : true_count_of (take low (mask_bits p.mask)) ≡ c.args.start = rw same at range.ensures.start in
    let end : true_count_of (take high (mask_bits p.mask)) ≡ c.args.end = rw same at range.ensures.end in
    let within : high ≤ length (mask_bits p.mask) = rw same at range.ensures.within in
    rw (c.into_array.ensures ∙ ap filter_column (c.of.ensures ∙ ap (λ (x : Column). record { child = x; mask = c.slice_mask.result }) c.in_ok-into_ref.ensures))
    (is_slice-filter p child c.slice_mask.result c.args.start c.args.end low high c.mask-mask.ensures.valid range.ensures.ordered within start end
    (c.slice_mask.ensures ∙ ap (λ (m : List Bool). slice_range m low high) same) cut)

pub stored::StoredSliceRows::slice-slice_validity-requires : goal.stored::StoredSliceRows::slice-slice_validity-requires
stored::StoredSliceRows::slice-slice_validity-requires t c =
    let p = parts_of c.args.self.now in let v = c.validity.ensures in
    let long = length-stored_rows p.valid p.items v.fitting in
    let fits : is_fitting (valid_of c.validity.result.now) c.len.result ≡ true = rw (v.value, c.len.ensures) v.fitting in
    (omega (arith, ap valid_size v.value), (fits, (c.requires.ordered, omega (arith, long, c.len.ensures, c.requires.within))))

pub stored::StoredSliceRows::slice-slice_stored-requires-clause-within : goal.stored::StoredSliceRows::slice-slice_stored-requires-clause-within
stored::StoredSliceRows::slice-slice_stored-requires-clause-within t c =
    let p = parts_of c.args.self.now in
    omega (arith, length-stored_rows p.valid p.items c.validity.ensures.fitting, c.requires.within)

-- ---- lists

pub list::ListArraySliceRows::slice-slice_list-requires : goal.list::ListArraySliceRows::slice-slice_list-requires
list::ListArraySliceRows::slice-slice_list-requires t c =
    let p = c.args.self.now in let h = c.validity.ensures.valid in let s = c.args.start in let e = c.args.end in
    let w = valid_of c.in_ok-validity.validity in let n = length (list_spans p).spans in
    let left : IsLeft p.valid (nullability_by p.valid) (slice_range (present_bits p.valid n) s e) w = rw (c.validity.ensures.value, c.len.ensures) at c.in_ok-validity.ensures.left in
    let within : e ≤ n = omega (arith, c.requires.within, rows-list p h) in
    record { ordered = c.requires.ordered; within = within; fitting = fits_slice p.valid w (nullability_by p.valid) n (fit-list p h) s e c.requires.ordered within left }

pub list::ListArraySliceRows::slice-returns-clause-cut : goal.list::ListArraySliceRows::slice-returns-clause-cut
list::ListArraySliceRows::slice-returns-clause-cut t c =
    let p = c.args.self.now in let h = c.validity.ensures.valid in let s = c.args.start in let e = c.args.end in
    let q = c.slice_list.result in let cut = c.slice_list.ensures in let w = valid_of c.in_ok-validity.validity in
    let left : IsLeft p.valid (nullability_by p.valid) (slice_range (present_bits p.valid (length (list_spans p).spans)) s e) w = rw (c.validity.ensures.value, c.len.ensures) at c.in_ok-validity.ensures.left in
    let plain : IsAsPlain p.valid w = rw c.validity.ensures.value at c.in_ok-validity.ensures.plain in
    rw c.into_array.ensures
    (slice_step (list_spans p) (list_spans q) refl refl (ap (λ (x : ListParts). list_of x.elements.dtype) cut.parts) (fit-list p h) s e c.requires.ordered c.requires.within cut.lists
    (rw (ap (λ (x : ListParts). x.valid) cut.parts) left) (rw (ap (λ (x : ListParts). x.valid) cut.parts) plain) (omega (arith, ap (λ (x : ListParts). x.elements.depth) cut.parts)))

pub listview::slice_views-slice_view-requires : goal.listview::slice_views-slice_view-requires
listview::slice_views-slice_view-requires t c =
    let p = c.args.array.now in let h = c.validity.ensures.valid in let s = c.args.start in let e = c.args.end in
    let w = valid_of c.in_ok-validity.validity in let n = length (listview_spans p).spans in
    let left : IsLeft p.valid (nullability_by p.valid) (slice_range (present_bits p.valid n) s e) w = rw (c.validity.ensures.value, c.len.ensures) at c.in_ok-validity.ensures.left in
    let within : e ≤ n = omega (arith, c.requires.within, rows-listview p h) in
    record { ordered = c.requires.ordered; within = within; fitting = fits_slice p.valid w (nullability_by p.valid) n (fit-listview p h) s e c.requires.ordered within left }

pub listview::slice_views-returns : goal.listview::slice_views-returns
listview::slice_views-returns t c =
    let p = c.args.array.now in let h = c.validity.ensures.valid in let s = c.args.start in let e = c.args.end in
    let q = c.slice_view.result in let cut = c.slice_view.ensures in let w = valid_of c.in_ok-validity.validity in
    let left : IsLeft p.valid (nullability_by p.valid) (slice_range (present_bits p.valid (length (listview_spans p).spans)) s e) w = rw (c.validity.ensures.value, c.len.ensures) at c.in_ok-validity.ensures.left in
    let plain : IsAsPlain p.valid w = rw c.validity.ensures.value at c.in_ok-validity.ensures.plain in
    (slice_step (listview_spans p) (listview_spans q) refl refl (ap (λ (x : ListViewParts). list_of x.elements.dtype) cut.parts) (fit-listview p h) s e c.requires.ordered c.requires.within cut.lists
    (rw (ap (λ (x : ListViewParts). x.valid) cut.parts) left) (rw (ap (λ (x : ListViewParts). x.valid) cut.parts) plain) (omega (arith, ap (λ (x : ListViewParts). x.elements.depth) cut.parts)))

pub fixed_size_list::FixedSizeListArraySliceRows::slice-with_parts-requires-clause-valid : goal.fixed_size_list::FixedSizeListArraySliceRows::slice-with_parts-requires-clause-valid
fixed_size_list::FixedSizeListArraySliceRows::slice-with_parts-requires-clause-valid t c =
    let p = c.args.self.now in let h = c.elements.ensures.valid in let s = c.args.start in let e = c.args.end in
    let w = valid_of c.in_ok-validity.validity in let n = length (fixed_spans p).spans in
    let left : IsLeft p.valid (nullability_by p.valid) (slice_range (present_bits p.valid n) s e) w = rw (c.validity.ensures.value, c.len-len.ensures.rows) at c.in_ok-validity.ensures.left in
    let cut : IsSlice p.elements (s * p.size) (e * p.size) c.in_ok-elements.elements = rw (c.deref-2.ensures ∙ c.elements-2.ensures.value, c.list_size-size.ensures.value) at c.in_ok-elements.ensures.cut in
    let fit = fits_slice p.valid w (nullability_by p.valid) n (fit-fixed p h) s e c.requires.ordered (omega (arith, c.requires.within, rows-fixed p h)) left in
    rw c.in_ok-into_ref.ensures
    (fault-fixed-slice p c.in_ok-elements.elements s e h c.requires.ordered (omega (arith, c.requires.within, rows-fixed p h, spans-fixed p)) cut.step.rows w fit)

pub fixed_size_list::FixedSizeListArraySliceRows::slice-returns-clause-cut : goal.fixed_size_list::FixedSizeListArraySliceRows::slice-returns-clause-cut
fixed_size_list::FixedSizeListArraySliceRows::slice-returns-clause-cut t c =
    let p = c.args.self.now in let h = c.elements.ensures.valid in let s = c.args.start in let e = c.args.end in
    let x = c.in_ok-elements.elements in let w = valid_of c.in_ok-validity.validity in
    let q : FixedParts = record { elements = x; size = p.size; len = e - s; valid = w } in
    let left : IsLeft p.valid (nullability_by p.valid) (slice_range (present_bits p.valid (length (fixed_spans p).spans)) s e) w = rw (c.validity.ensures.value, c.len-len.ensures.rows) at c.in_ok-validity.ensures.left in
    let plain : IsAsPlain p.valid w = rw c.validity.ensures.value at c.in_ok-validity.ensures.plain in
    let cut : IsSlice p.elements (s * p.size) (e * p.size) x = rw (c.deref-2.ensures ∙ c.elements-2.ensures.value, c.list_size-size.ensures.value) at c.in_ok-elements.ensures.cut in
    let inside : e ≤ p.len = omega (arith, c.requires.within, rows-fixed p h, spans-fixed p) in
    let made : c.into_array.result ≡ fixed_column q = c.into_array.ensures ∙ ap fixed_column (c.with_parts.ensures ∙ ap (λ (y : Column). let z : FixedParts = record { elements = y; size = p.size; len = e - s; valid = w } in z) c.in_ok-into_ref.ensures) in
    rw made
    (slice_step (fixed_spans p) (fixed_spans q) refl refl (ap (λ t. fixed_of t p.size) cut.step.dtype) (fit-fixed p h) s e c.requires.ordered c.requires.within
    (lists-fixed-slice p x s e h c.requires.ordered inside cut.step.rows w) left plain cut.depth)

-- ---- extensions and maps

pub extension::ExtensionArraySliceRows::slice-restored-requires : goal.extension::ExtensionArraySliceRows::slice-restored-requires
extension::ExtensionArraySliceRows::slice-restored-requires t c =
    let p = c.args.self.now in let x = c.in_ok-storage.storage in
    let cut : IsSlice p.storage c.args.start c.args.end x = rw (c.deref.ensures ∙ c.storage.ensures.value) at c.in_ok-storage.ensures.cut in
    fault-extension p x c.storage.ensures.valid (ap (λ (t : TypeTree). t.kind) cut.step.dtype)

pub extension::ExtensionArraySliceRows::slice-returns-clause-cut : goal.extension::ExtensionArraySliceRows::slice-returns-clause-cut
extension::ExtensionArraySliceRows::slice-returns-clause-cut t c =
    let p = c.args.self.now in let x = c.in_ok-storage.storage in
    let cut : IsSlice p.storage c.args.start c.args.end x = rw (c.deref.ensures ∙ c.storage.ensures.value) at c.in_ok-storage.ensures.cut in
    if_ok c.restored.result c.restored.ensures (λ a is. rw is (is_cut-extension p x _ cut))

pub map::MapArraySliceRows::slice-of_entries-requires : goal.map::MapArraySliceRows::slice-of_entries-requires
map::MapArraySliceRows::slice-of_entries-requires t c =
    let p = c.args.self.now in let q = c.in_ok-entries.entries in
    let cut : IsSlice (listview_column p) c.args.start c.args.end (listview_column q) = rw c.entries.ensures.value at c.in_ok-entries.ensures in
    fault-map p q c.entries.ensures.valid (elements-step p q _ (nullability_by p.valid) cut.step)

pub map::MapArraySliceRows::slice-returns-clause-cut : goal.map::MapArraySliceRows::slice-returns-clause-cut
map::MapArraySliceRows::slice-returns-clause-cut t c =
    let p = c.args.self.now in let q = c.in_ok-entries.entries in
    let cut : IsSlice (listview_column p) c.args.start c.args.end (listview_column q) = rw c.entries.ensures.value at c.in_ok-entries.ensures in
    rw c.of_entries.ensures (is_cut-map p q _ cut)

-- ---- structs

pub struct_::StructArraySliceRows::slice-with_parts-requires : goal.struct_::StructArraySliceRows::slice-with_parts-requires
struct_::StructArraySliceRows::slice-with_parts-requires t c =
    let p = c.args.self.now in let h = c.validity.ensures.valid in let s = c.args.start in let e = c.args.end in
    let w = valid_of c.in_ok-validity.validity in let fields = c.in_ok-fields.fields in
    let q : StructParts = record p { columns = fields; len = e - s; valid = w } in
    let within : e ≤ p.len = omega (arith, c.requires.within, rows-struct p h) in
    let cuts : AreCuts (λ rows. slice_range rows s e) p.columns fields = rw c.fields.ensures.value at c.in_ok-fields.ensures in
    let steps = steps-cuts _ p.columns fields cuts in
    let left : IsLeft p.valid (nullability_by p.valid) (slice_range (present_bits p.valid p.len) s e) w = rw (c.validity.ensures.value, c.len-len.ensures) at c.in_ok-validity.ensures.left in
    fault-struct p q h refl (types-steps _ p.columns fields steps)
    (long-slice p.len p.columns fields (long-struct p h) s e c.requires.ordered within steps)
    (fits_slice p.valid w (nullability_by p.valid) p.len (fitting-struct p h) s e c.requires.ordered within left)

pub struct_::StructArraySliceRows::slice-returns-clause-cut : goal.struct_::StructArraySliceRows::slice-returns-clause-cut
struct_::StructArraySliceRows::slice-returns-clause-cut t c =
    let p = c.args.self.now in let h = c.validity.ensures.valid in let s = c.args.start in let e = c.args.end in
    let w = valid_of c.in_ok-validity.validity in let fields = c.in_ok-fields.fields in
    let q : StructParts = record p { columns = fields; len = e - s; valid = w } in
    let within : e ≤ p.len = omega (arith, c.requires.within, rows-struct p h) in
    let cuts : AreCuts (λ rows. slice_range rows s e) p.columns fields = rw c.fields.ensures.value at c.in_ok-fields.ensures in
    let left : IsLeft p.valid (nullability_by p.valid) (slice_range (present_bits p.valid p.len) s e) w = rw (c.validity.ensures.value, c.len-len.ensures) at c.in_ok-validity.ensures.left in
    let plain : IsAsPlain p.valid w = rw c.validity.ensures.value at c.in_ok-validity.ensures.plain in
    rw (c.into_array.ensures, c.with_parts.ensures)
    (is_slice-struct p q h refl s e c.requires.ordered within refl cuts left plain)

pub columns::slice_each-loop-column-preserved : goal.columns::slice_each-loop-column-preserved
columns::slice_each-loop-column-preserved t c =
    let s = c.args.start in let e = c.args.end in let cs = c.args.columns.now in let k = c.loop-column.column-index in
    let column = c.column-item.result in let x = c.in_ok-into_ref.field-0 in
    let here : k < length cs = rw (← c.as_slice-column-items.ensures) c.loop-column-test.true in
    let is : column ≡ get_or cs k column = rw (← c.as_slice-column-items.ensures) c.column-item.is in
    let cut : IsSlice column s e x = rw (c.in_ok-into_ref.ensures, ← c.deref.ensures) c.in_ok-slice.ensures.cut in
    subst (λ (l : List Column). AreCuts (λ rows. slice_range rows s e) (take (k + 1) cs) l) (sym c.in_ok-push.ensures.items)
    (slices_more s e cs k column c.loop-column.cut.items x here is c.loop-column.invariant cut)

-- ---- unions

pub union_::slice_variants-with_parts-requires :
    goal.union_::slice_variants-with_parts-requires
union_::slice_variants-with_parts-requires t c =
    let p = c.args.array.now in let h = c.type_ids.ensures.valid in let s = c.args.start in let e = c.args.end in
    let a = c.in_ok-ids.ids in let o = c.in-Some.offsets.now in
    let some : p.offsets ≡ Some o = sym c.in-Some.ensures.value in
    let cut : IsSlice p.ids s e a = subst (λ (x : Column). IsSlice x s e a) (c.deref.ensures ∙ c.type_ids.ensures.value) (rw c.in_ok-ids.ensures c.in_ok-slice.ensures.cut) in
    ap₂ (λ (r : RecordParts) (cs : List Column). union_fault (record p { ids = a; offsets = Some r; columns = cs })) c.slice_numbers-places.ensures (c.share-columns.ensures ∙ c.children.ensures.value)
    ∙ fault-dense-slice p o h some a s e c.requires.ordered (omega (arith, c.requires.within, rows-union p h)) cut

pub union_::slice_variants-with_parts-requires-in-None :
    goal.union_::slice_variants-with_parts-requires-in-None
union_::slice_variants-with_parts-requires-in-None t c =
    let p = c.args.array.now in let h = c.type_ids.ensures.valid in let s = c.args.start in let e = c.args.end in
    let a = c.in_ok-ids.ids in let cs = c.in_ok-columns-in-None.columns in
    let cut : IsSlice p.ids s e a = subst (λ (x : Column). IsSlice x s e a) (c.deref.ensures ∙ c.type_ids.ensures.value) (rw c.in_ok-ids.ensures c.in_ok-slice.ensures.cut) in
    let cuts : AreCuts (λ rows. slice_range rows s e) p.columns cs = rw c.children-in-None.ensures.value at c.in_ok-columns-in-None.ensures in
    fault-sparse-slice p h (sym c.in-None.ensures.value) a cs s e c.requires.ordered (omega (arith, c.requires.within, rows-union p h)) cut cuts

pub union_::slice_variants-returns-in-Some-clause-cut :
    goal.union_::slice_variants-returns-in-Some-clause-cut
union_::slice_variants-returns-in-Some-clause-cut t c =
    let p = c.args.array.now in let h = c.type_ids.ensures.valid in let s = c.args.start in let e = c.args.end in
    let a = c.in_ok-ids.ids in let o = c.in-Some.offsets.now in
    let some : p.offsets ≡ Some o = sym c.in-Some.ensures.value in
    let cut : IsSlice p.ids s e a = subst (λ (x : Column). IsSlice x s e a) (c.deref.ensures ∙ c.type_ids.ensures.value) (rw c.in_ok-ids.ensures c.in_ok-slice.ensures.cut) in
    let q : c.with_parts.result ≡ record p { ids = a; offsets = Some (records_with o (slice_range o.records s e) non_nullable) } =
    c.with_parts.ensures
    ∙ ap₂ (λ (r : RecordParts) (cs : List Column). let u : UnionParts = record p { ids = a; offsets = Some r; columns = cs } in u) c.slice_numbers-places.ensures (c.share-columns.ensures ∙ c.children.ensures.value) in
    subst (λ (u : UnionParts). IsSlice (union_column p) s e (union_column u)) (sym q) (is_slice-dense p o h some a s e cut)

pub union_::slice_variants-returns-in-Some-clause-parts :
    goal.union_::slice_variants-returns-in-Some-clause-parts
union_::slice_variants-returns-in-Some-clause-parts t c =
    let p = c.args.array.now in let s = c.args.start in let e = c.args.end in
    let a = c.in_ok-ids.ids in let o = c.in-Some.offsets.now in
    let some : p.offsets ≡ Some o = sym c.in-Some.ensures.value in
    let cut : IsSlice p.ids s e a = subst (λ (x : Column). IsSlice x s e a) (c.deref.ensures ∙ c.type_ids.ensures.value) (rw c.in_ok-ids.ensures c.in_ok-slice.ensures.cut) in
    let q : c.with_parts.result ≡ record p { ids = a; offsets = Some (records_with o (slice_range o.records s e) non_nullable) } =
    c.with_parts.ensures
    ∙ ap₂ (λ (r : RecordParts) (cs : List Column). let u : UnionParts = record p { ids = a; offsets = Some r; columns = cs } in u) c.slice_numbers-places.ensures (c.share-columns.ensures ∙ c.children.ensures.value) in
    subst (IsUnionSlice p s e) (sym q) (sliced-dense p s e a cut o some)

pub union_::slice_variants-returns-in_ok-columns-in-None-clause-cut :
    goal.union_::slice_variants-returns-in_ok-columns-in-None-clause-cut
union_::slice_variants-returns-in_ok-columns-in-None-clause-cut t c =
    let p = c.args.array.now in let h = c.type_ids.ensures.valid in let s = c.args.start in let e = c.args.end in
    let a = c.in_ok-ids.ids in let cs = c.in_ok-columns-in-None.columns in
    let cut : IsSlice p.ids s e a = subst (λ (x : Column). IsSlice x s e a) (c.deref.ensures ∙ c.type_ids.ensures.value) (rw c.in_ok-ids.ensures c.in_ok-slice.ensures.cut) in
    let cuts : AreCuts (λ rows. slice_range rows s e) p.columns cs = rw c.children-in-None.ensures.value at c.in_ok-columns-in-None.ensures in
    rw c.with_parts-in-None.ensures
    (is_slice-sparse p h (sym c.in-None.ensures.value) a cs s e c.requires.ordered (omega (arith, c.requires.within, rows-union p h)) cut cuts)

pub union_::slice_variants-returns-in_ok-columns-in-None-clause-parts :
    goal.union_::slice_variants-returns-in_ok-columns-in-None-clause-parts
union_::slice_variants-returns-in_ok-columns-in-None-clause-parts t c =
    let p = c.args.array.now in let s = c.args.start in let e = c.args.end in
    let a = c.in_ok-ids.ids in let cs = c.in_ok-columns-in-None.columns in
    let cut : IsSlice p.ids s e a = subst (λ (x : Column). IsSlice x s e a) (c.deref.ensures ∙ c.type_ids.ensures.value) (rw c.in_ok-ids.ensures c.in_ok-slice.ensures.cut) in
    let cuts : AreCuts (λ rows. slice_range rows s e) p.columns cs = rw c.children-in-None.ensures.value at c.in_ok-columns-in-None.ensures in
    rw c.with_parts-in-None.ensures (sliced-sparse p s e a cut cs (sym c.in-None.ensures.value) cuts)
