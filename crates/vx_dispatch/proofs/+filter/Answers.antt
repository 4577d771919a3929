-- A step of a layout's parts, with that of its validity, is the step of its column: filters.
use Rattle.std.proofs.Common.{◌≡◌, length, true, refl, sym, ap, ◌∙◌, arith}
use Rattle.std.specs.List.{items_where_true}
use Rattle.vx_model.specs.Valid.{non_nullable, all_valid, all_invalid, by_column, is_fitting}
use Rattle.vx_model.specs.Step.{IsCut}
use Rattle.vx_model.proofs.ShownRows.{is_left-filter}
use Rattle.vx_model.proofs.Validities.{is_left-filter-by_column}
use Rattle.vx_column.specs.Validity.{valid_of}
use Rattle.vx_model.proofs.StoredRows.{length-stored_rows}
use Rattle.vx_plain.specs.Stored.{parts_of}
use Rattle.std.proofs.lemmas.List.{length-replicate}
use Rattle.std.proofs.Common.{map}
use Rattle.vx_mask.specs.Mask.{mask_bits}
use Rattle.vx_mask.specs.Positions.{rank_of, set_of}
use Rattle.vx_model.proofs.Items.{items_where_true-all, items_where_true-none}
use Rattle.vx_model.proofs.LazyRows.{length-filter}
use Rattle.vx_model.proofs.DictSteps.{dict_fault-filter, is_filter-dict}
use Rattle.vx_model.proofs.FilterSteps.{is_filter-filter}
use Rattle.vx_dispatch.proofs.Unions.{parts-dense, parts-sparse}
use Rattle.vx_model.specs.Valid.{valid_size}
use Rattle.std.proofs.Common.{ℕ, ◌*◌, ap₂, slice_range}
use Rattle.vx_lists.proofs.ListsOfOneSize.{length-repeated}
use Rattle.vx_bits.specs.BitBuffer.{true_count_of}
use Rattle.vx_lists.specs.Plans.{lists_left, MakesFixed, MakesLists}
use Rattle.vx_model.specs.Column.{Column}
use Rattle.vx_model.specs.FixedSizeList.{FixedParts, fixed_column, fixed_of, fixed_spans}
use Rattle.vx_model.specs.List.{ListParts, list_of, list_spans}
use Rattle.vx_model.specs.ListView.{ListViewParts, listview_spans}
use Rattle.vx_model.specs.Lists.{lists_of}
use Rattle.vx_model.specs.Step.{IsSlice}
use Rattle.vx_model.specs.Valid.{Valid, nullability_by, IsAsPlain}
use Rattle.vx_model.proofs.ListRows.{elements-fixed, fit-fixed, fit-list, fit-listview, rows-fixed, rows-list, rows-listview, spans-fixed}
use Rattle.vx_dispatch.proofs.ListSteps.{filter_left_step, filter_step, fits_filter, fits_kept, left_kept}
use Rattle.vx_bits.specs.BitBuffer.{true_count_of}
use Rattle.vx_mask.specs.Mask.{mask_bits}
use Rattle.vx_model.specs.Columns.{AreCuts}
use Rattle.vx_model.specs.Struct.{StructParts}
use Rattle.vx_model.proofs.Across.{long-filter, steps-cuts, types-steps}
use Rattle.vx_model.proofs.ExtensionSteps.{fault-extension, is_cut-extension}
use Rattle.vx_model.proofs.MapSteps.{elements-step, fault-map, is_cut-map}
use Rattle.vx_model.proofs.StructSteps.{fault-struct, fitting-struct, is_filter-struct, long-struct, rows-struct}
use Rattle.vx_dispatch.proofs.EachColumn.{cuts_ready, filters_more}
use Rattle.vx_model.specs.ListView.{listview_column}
use Rattle.vx_types.specs.TypeTree.{TypeTree}
use Rattle.std.proofs.Common.{◌+◌, ◌<◌, List, take, get_or, subst}
use Rattle.std.proofs.Common.{Some}
use Rattle.vx_model.specs.Records.{RecordParts, records_with}
use Rattle.vx_model.specs.Union.{UnionParts, IsUnionFilter, offsets_kind, union_column, union_fault}
use Rattle.vx_model.proofs.UnionFaults.{fault-dense-filter, fault-sparse-filter, is_filter-dense, is_filter-sparse}
use Rattle.vx_model.proofs.UnionSteps.{rows-union}
use Rattle.vx_dispatch.proofs.+filter.Goals as goal
use Rattle.vx_lemmas.proofs.Results.{if_ok}
use Rattle.std.proofs.Math.Nat.{mul_comm}

pub validity::filter_validity-returns-in-NonNullable-clause-left : goal.validity::filter_validity-returns-in-NonNullable-clause-left
validity::filter_validity-returns-in-NonNullable-clause-left t c =
    rw c.in-NonNullable.is (is_left-filter non_nullable c.args.mask.now.bits.bits refl refl)

pub validity::filter_validity-returns-in-AllValid-clause-left : goal.validity::filter_validity-returns-in-AllValid-clause-left
validity::filter_validity-returns-in-AllValid-clause-left t c =
    rw c.in-AllValid.is (is_left-filter all_valid c.args.mask.now.bits.bits refl refl)

pub validity::filter_validity-returns-in-AllInvalid-clause-left : goal.validity::filter_validity-returns-in-AllInvalid-clause-left
validity::filter_validity-returns-in-AllInvalid-clause-left t c =
    rw c.in-AllInvalid.is (is_left-filter all_invalid c.args.mask.now.bits.bits refl refl)

pub validity::filter_validity-returns-in_ok-filter_values-in-Array-clause-left : goal.validity::filter_validity-returns-in_ok-filter_values-in-Array-clause-left
validity::filter_validity-returns-in_ok-filter_values-in-Array-clause-left t c =
    let a = c.in-Array.array in let mask = c.args.mask.now.bits.bits in
    let fit : is_fitting (by_column a) (length mask) ≡ true = rw c.in-Array.is at c.requires in
    let kept = c.in_ok-filter_values-in-Array.field-0 in
    let cut : IsCut a (items_where_true mask a.rows) kept = rw c.deref.ensures at c.in_ok-filter_values-in-Array.ensures.cut in
    let left = is_left-filter-by_column a kept mask fit cut in
    rw c.in-Array.is (if_ok c.from_column.result c.from_column.ensures (λ v is. rw is left))

pub dict::DictArrayFilterRows::filter-recoded-requires : goal.dict::DictArrayFilterRows::filter-recoded-requires
dict::DictArrayFilterRows::filter-recoded-requires t c =
    let p = c.args.self.now in let codes = c.in_ok-codes.codes in let mask = c.args.mask.now.bits.bits in
    let cut : IsCut p.codes (items_where_true mask p.codes.rows) codes = rw (c.deref.ensures ∙ c.codes.ensures.value) at c.in_ok-codes.ensures.cut in
    dict_fault-filter p codes mask c.codes.ensures.valid cut

pub dict::DictArrayFilterRows::filter-returns : goal.dict::DictArrayFilterRows::filter-returns
dict::DictArrayFilterRows::filter-returns t c =
    let p = c.args.self.now in let codes = c.in_ok-codes.codes in let mask = c.args.mask.now.bits.bits in
    let cut : IsCut p.codes (items_where_true mask p.codes.rows) codes = rw (c.deref.ensures ∙ c.codes.ensures.value) at c.in_ok-codes.ensures.cut in
    if_ok c.recoded.result c.recoded.ensures (λ a is. rw is (is_filter-dict p codes mask c.codes.ensures.valid cut))

pub filter_layout::FilterArrayFilterRows::filter-returns : goal.filter_layout::FilterArrayFilterRows::filter-returns
filter_layout::FilterArrayFilterRows::filter-returns t c =
    let p = c.args.self.now in let other = c.args.mask.now.bits.bits in let both = mask_bits c.in_ok-both.both in
    let sound = c.child-child.ensures.valid in let same = ap mask_bits c.mask.ensures.value in
    let set : set_of both ≡ map (rank_of (mask_bits p.mask)) (set_of other) = rw same at c.in_ok-both.ensures.set in
    let long : length both ≡ length (mask_bits p.mask) = rw same at c.in_ok-both.ensures.len in
    let child = c.deref.ensures ∙ c.child-child.ensures.value in
    if_ok c.filter.result c.filter.ensures.cut (λ kept cut. is_filter-filter p other both kept sound (c.requires ∙ length-filter p sound) set long (rw child at cut))

pub filtering::filter-returns-in-AllTrue-clause-cut : goal.filtering::filter-returns-in-AllTrue-clause-cut
filtering::filter-returns-in-AllTrue-clause-cut t c =
    let n = c.in-AllTrue.field-0 in
    let long = sym (length-replicate n true) ∙ ap length (ap mask_bits (sym c.in-AllTrue.is)) ∙ c.requires in
    record {
      step = record {
        rows = rw (c.share.ensures, c.in-AllTrue.is) (items_where_true-all n c.args.array.now.rows long);
        dtype = rw c.share.ensures refl;
        layout = rw c.share.ensures (λ _. refl);
        unwrapped = rw c.share.ensures (λ h. h);
        direct = rw c.share.ensures (λ h. h);
        form = rw c.share.ensures refl;
      };
      plain = rw c.share.ensures (λ h. h);
      depth = rw c.share.ensures (omega arith);
    }

pub filtering::filter-returns-in-AllFalse-clause-cut : goal.filtering::filter-returns-in-AllFalse-clause-cut
filtering::filter-returns-in-AllFalse-clause-cut t c =
    let none = items_where_true-none c.in-AllFalse.field-0 c.args.array.now.rows in
    rw c.in-AllFalse.is (rw (← none) c.slice.ensures.cut)

pub stored::StoredFilterRows::filter-filter_validity-requires : goal.stored::StoredFilterRows::filter-filter_validity-requires
stored::StoredFilterRows::filter-filter_validity-requires t c =
    let p = parts_of c.args.self.now in let v = c.validity.ensures in
    let long = c.requires ∙ length-stored_rows p.valid p.items v.fitting in
    let fits : is_fitting (valid_of c.validity.result.now) (length c.args.mask.now.bits.bits) ≡ true = rw (v.value, long) v.fitting in
    (omega (arith, ap valid_size v.value), fits)

pub stored::StoredFilterRows::filter-filter_stored-requires-clause-long : goal.stored::StoredFilterRows::filter-filter_stored-requires-clause-long
stored::StoredFilterRows::filter-filter_stored-requires-clause-long t c =
    let p = parts_of c.args.self.now in c.requires ∙ length-stored_rows p.valid p.items c.validity.ensures.fitting

pub stored::StoredFilterRows::filter-filter_stored-requires-clause-left : goal.stored::StoredFilterRows::filter-filter_stored-requires-clause-left
stored::StoredFilterRows::filter-filter_stored-requires-clause-left t c =
    let p = parts_of c.args.self.now in let v = c.validity.ensures in
    let long = c.requires ∙ length-stored_rows p.valid p.items v.fitting in
    rw (← long, ← v.value) c.in_ok-validity.ensures.left

-- ---- lists

pub list::ListArrayFilterRows::filter-plan_list_filter-requires : goal.list::ListArrayFilterRows::filter-plan_list_filter-requires
list::ListArrayFilterRows::filter-plan_list_filter-requires t c =
    let p = c.args.self.now in let h = c.validity.ensures.valid in let long = c.requires ∙ rows-list p h in
    record {
      long = long;
      fitting = fits_kept c.args.mask.now.bits.bits c.validity.ensures.value long c.in_ok-validity.ensures.left (fit-list p h);
    }

pub list::ListArrayFilterRows::filter-returns : goal.list::ListArrayFilterRows::filter-returns
list::ListArrayFilterRows::filter-returns t c =
    let p = c.args.self.now in let h = c.validity.ensures.valid in let mask = c.args.mask.now.bits.bits in
    let w = valid_of c.in_ok-validity.validity in let plan = c.in_ok-plan.plan in let x = c.in_ok-elements.elements in
    let q : ListParts = record { elements = x; offsets = plan.offsets; valid = w } in
    let left = left_kept mask c.validity.ensures.value (c.requires ∙ rows-list p h) c.in_ok-validity.ensures.left in
    let plain : IsAsPlain p.valid w = rw c.validity.ensures.value at c.in_ok-validity.ensures.plain in
    let same = c.in_ok-plan.ensures.valid in
    let part : IsSlice p.elements plan.range.0 plan.range.1 c.in_ok-part.part = rw (c.deref.ensures ∙ c.elements.ensures.value) at c.in_ok-part.ensures.cut in
    let kept = c.in_ok-elements.ensures.cut in
    let rows = kept.step.rows ∙ ap (items_where_true (mask_bits plan.mask)) part.step.rows in
    let makes : MakesLists plan.offsets w (items_where_true (mask_bits plan.mask) (slice_range p.elements.rows plan.range.0 plan.range.1)) (lists_left w (items_where_true mask (lists_of (list_spans p)))) = c.in_ok-plan.ensures.lists.makes in
    rw (c.into_array.ensures, c.in_ok-kept.ensures, same)
    (filter_left_step (list_spans p) (list_spans q) refl refl (ap list_of (kept.step.dtype ∙ part.step.dtype)) (fit-list p h) mask c.requires (makes x rows).1 left plain
    (omega (arith, kept.depth, part.depth)))

pub listview::filter_views-plan_view_filter-requires : goal.listview::filter_views-plan_view_filter-requires
listview::filter_views-plan_view_filter-requires t c =
    let p = c.args.array.now in let h = c.validity.ensures.valid in let long = c.requires ∙ rows-listview p h in
    record {
      long = long;
      fitting = fits_kept c.args.mask.now.bits.bits c.validity.ensures.value long c.in_ok-validity.ensures.left (fit-listview p h);
    }

pub listview::filter_views-returns : goal.listview::filter_views-returns
listview::filter_views-returns t c =
    let p = c.args.array.now in let h = c.validity.ensures.valid in let mask = c.args.mask.now.bits.bits in
    let w = valid_of c.in_ok-validity.validity in let plan = c.in_ok-plan.plan in
    let q : ListViewParts = record { elements = p.elements; offsets = plan.offsets; sizes = plan.sizes; valid = w } in
    let left = left_kept mask c.validity.ensures.value (c.requires ∙ rows-listview p h) c.in_ok-validity.ensures.left in
    let plain : IsAsPlain p.valid w = rw c.validity.ensures.value at c.in_ok-validity.ensures.plain in
    rw (c.relisted.ensures, c.in_ok-plan.ensures.valid)
    (filter_step (listview_spans p) (listview_spans q) refl refl refl (fit-listview p h) mask c.requires c.in_ok-plan.ensures.lists.1 left plain (omega arith))

pub fixed_size_list::FixedSizeListArrayFilterRows::filter-plan_fixed_filter-requires : goal.fixed_size_list::FixedSizeListArrayFilterRows::filter-plan_fixed_filter-requires
fixed_size_list::FixedSizeListArrayFilterRows::filter-plan_fixed_filter-requires t c =
    let p = c.args.self.now in let h = c.validity.ensures.valid in let long = c.requires ∙ rows-fixed p h in
    record {
      long = long ∙ spans-fixed p;
      fitting = fits_kept c.args.mask.now.bits.bits c.validity.ensures.value long c.in_ok-validity.ensures.left (fit-fixed p h);
    }

pub fixed_size_list::FixedSizeListArrayFilterRows::filter-returns : goal.fixed_size_list::FixedSizeListArrayFilterRows::filter-returns
fixed_size_list::FixedSizeListArrayFilterRows::filter-returns t c =
    let p = c.args.self.now in let h = c.validity.ensures.valid in let mask = c.args.mask.now.bits.bits in
    let w = valid_of c.in_ok-validity.validity in let plan = c.in_ok-validity-2.field-0 in let x = c.in_ok-elements.elements in
    let q : FixedParts = record { elements = x; size = p.size; len = true_count_of mask; valid = w } in
    let left = left_kept mask c.validity.ensures.value (c.requires ∙ rows-fixed p h) c.in_ok-validity.ensures.left in
    let plain : IsAsPlain p.valid w = rw c.validity.ensures.value at c.in_ok-validity.ensures.plain in
    let same = c.in_ok-validity-2.ensures.valid in
    let kept : IsCut p.elements (items_where_true (mask_bits plan.mask) p.elements.rows) x = rw (c.deref.ensures ∙ c.elements.ensures.value) at c.in_ok-elements.ensures.cut in
    let makes : MakesFixed p.size (true_count_of mask) w (items_where_true (mask_bits plan.mask) p.elements.rows) (items_where_true mask (lists_of (fixed_spans p))) = c.in_ok-validity-2.ensures.lists in
    let made : c.into_array.result ≡ fixed_column q = c.into_array.ensures ∙ ap fixed_column (c.with_parts.ensures ∙ ap₂ (λ (y : Column) (n : ℕ). let z : FixedParts = record { elements = y; size = p.size; len = n; valid = valid_of plan.validity } in z) c.in_ok-elements-2.ensures c.true_count.ensures.count ∙ ap (λ (v : Valid). let z : FixedParts = record { elements = x; size = p.size; len = true_count_of mask; valid = v } in z) same) in
    rw made
    (filter_step (fixed_spans p) (fixed_spans q) refl refl (ap (λ t. fixed_of t p.size) kept.step.dtype) (fit-fixed p h) mask c.requires (makes x kept.step.rows).1 left plain kept.depth)

pub fixed_size_list::FixedSizeListArrayFilterRows::filter-filter-requires : goal.fixed_size_list::FixedSizeListArrayFilterRows::filter-filter-requires
fixed_size_list::FixedSizeListArrayFilterRows::filter-filter-requires t c =
    let p = c.args.self.now in let h = c.validity.ensures.valid in let mask = c.args.mask.now.bits.bits in
    let same = c.deref.ensures ∙ c.elements.ensures.value in
    let rows : length mask ≡ p.len = c.requires ∙ rows-fixed p h ∙ spans-fixed p in
    let bits : length (mask_bits c.in_ok-validity-2.field-0.mask) ≡ length mask * p.size = ap length c.in_ok-validity-2.ensures.mask ∙ length-repeated p.size mask in
    let long : length p.elements.rows ≡ p.size * p.len = elements-fixed p h in
    let both : length mask * p.size ≡ p.size * p.len = ap (λ n. n * p.size) rows ∙ mul_comm p.len p.size in (
      omega (arith, ap (λ (x : Column). x.depth) same),
      bits ∙ both ∙ sym long ∙ ap (λ (x : Column). length x.rows) (sym same),
    )

-- ---- extensions and maps

pub extension::ExtensionArrayFilterRows::filter-restored-requires : goal.extension::ExtensionArrayFilterRows::filter-restored-requires
extension::ExtensionArrayFilterRows::filter-restored-requires t c =
    let p = c.args.self.now in let x = c.in_ok-storage.storage in let mask = c.args.mask.now.bits.bits in
    let cut : IsCut p.storage (items_where_true mask p.storage.rows) x = rw (c.deref.ensures ∙ c.storage.ensures.value) at c.in_ok-storage.ensures.cut in
    fault-extension p x c.storage.ensures.valid (ap (λ (t : TypeTree). t.kind) cut.step.dtype)

pub extension::ExtensionArrayFilterRows::filter-returns : goal.extension::ExtensionArrayFilterRows::filter-returns
extension::ExtensionArrayFilterRows::filter-returns t c =
    let p = c.args.self.now in let x = c.in_ok-storage.storage in let mask = c.args.mask.now.bits.bits in
    let cut : IsCut p.storage (items_where_true mask p.storage.rows) x = rw (c.deref.ensures ∙ c.storage.ensures.value) at c.in_ok-storage.ensures.cut in
    if_ok c.restored.result c.restored.ensures (λ a is. rw is (is_cut-extension p x _ cut))

pub map::MapArrayFilterRows::filter-of_entries-requires : goal.map::MapArrayFilterRows::filter-of_entries-requires
map::MapArrayFilterRows::filter-of_entries-requires t c =
    let p = c.args.self.now in let q = c.in_ok-entries.entries in let mask = c.args.mask.now.bits.bits in
    let cut : IsCut (listview_column p) (items_where_true mask (listview_column p).rows) (listview_column q) = rw c.entries.ensures.value at c.in_ok-entries.ensures in
    fault-map p q c.entries.ensures.valid (elements-step p q _ (nullability_by p.valid) cut.step)

pub map::MapArrayFilterRows::filter-returns : goal.map::MapArrayFilterRows::filter-returns
map::MapArrayFilterRows::filter-returns t c =
    let p = c.args.self.now in let q = c.in_ok-entries.entries in let mask = c.args.mask.now.bits.bits in
    let cut : IsCut (listview_column p) (items_where_true mask (listview_column p).rows) (listview_column q) = rw c.entries.ensures.value at c.in_ok-entries.ensures in
    rw c.of_entries.ensures (is_cut-map p q _ cut)

-- ---- structs

pub columns::filter_each-loop-column-preserved : goal.columns::filter_each-loop-column-preserved
columns::filter_each-loop-column-preserved t c =
    let mask = mask_bits c.args.mask.now in let cs = c.args.columns.now in let k = c.loop-column.column-index in
    let column = c.column-item.result in let x = c.in_ok-into_ref.field-0 in
    let here : k < length cs = rw (← c.as_slice-column-items.ensures) c.loop-column-test.true in
    let is : column ≡ get_or cs k column = rw (← c.as_slice-column-items.ensures) c.column-item.is in
    let cut : IsCut column (items_where_true mask column.rows) x = rw (c.in_ok-into_ref.ensures, ← c.deref.ensures) c.in_ok-filter.ensures.cut in
    subst (λ (l : List Column). AreCuts (items_where_true mask) (take (k + 1) cs) l) (sym c.in_ok-push.ensures.items)
    (filters_more mask cs k column c.loop-column.cut.items x here is c.loop-column.invariant cut)

pub struct_::filter_fields-with_parts-requires : goal.struct_::filter_fields-with_parts-requires
struct_::filter_fields-with_parts-requires t c =
    let p = c.args.array.now in let h = c.fields-columns.ensures.valid in let mask = c.args.mask.now.bits.bits in
    let w = valid_of c.in_ok-validity.validity in let fields = c.in_ok-fields.fields in
    let q : StructParts = record p { columns = fields; len = c.true_count.result; valid = w } in
    let long : length mask ≡ p.len = c.requires ∙ rows-struct p h in
    let cuts = cuts_ready c.share.result c.len.result c.args.policy.now _ c.in_ok-ready.ensures c.share.ensures c.fields-columns.ensures.value c.in_ok-fields.ensures in
    let steps = steps-cuts _ p.columns fields cuts in
    let left = left_kept mask c.validity.ensures.value long c.in_ok-validity.ensures.left in
    fault-struct p q h refl (types-steps _ p.columns fields steps)
    (rw c.true_count.ensures.count (long-filter p.len p.columns fields (long-struct p h) mask long steps))
    (rw c.true_count.ensures.count (fits_filter p.valid w (nullability_by p.valid) p.len (fitting-struct p h) mask long left))

pub struct_::filter_fields-returns : goal.struct_::filter_fields-returns
struct_::filter_fields-returns t c =
    let p = c.args.array.now in let h = c.fields-columns.ensures.valid in let mask = c.args.mask.now.bits.bits in
    let w = valid_of c.in_ok-validity.validity in let fields = c.in_ok-fields.fields in
    let q : StructParts = record p { columns = fields; len = c.true_count.result; valid = w } in
    let long : length mask ≡ p.len = c.requires ∙ rows-struct p h in
    let cuts = cuts_ready c.share.result c.len.result c.args.policy.now _ c.in_ok-ready.ensures c.share.ensures c.fields-columns.ensures.value c.in_ok-fields.ensures in
    let left = left_kept mask c.validity.ensures.value long c.in_ok-validity.ensures.left in
    let plain : IsAsPlain p.valid w = rw c.validity.ensures.value at c.in_ok-validity.ensures.plain in
    rw c.with_parts.ensures (is_filter-struct p q h refl mask long c.true_count.ensures.count cuts left plain)

-- ---- unions

pub union_::filter_sparse-with_parts-requires :
    goal.union_::filter_sparse-with_parts-requires
union_::filter_sparse-with_parts-requires t c =
    let p = c.args.array.now in let h = c.children-columns.ensures.valid in let mask = c.args.mask.now.bits.bits in
    let a = c.args.ids in let cs = c.in_ok-cut.cut in
    let cuts = cuts_ready c.share.result c.len.result c.args.policy.now _ c.in_ok-ready.ensures c.share.ensures c.children-columns.ensures.value c.in_ok-cut.ensures in
    fault-sparse-filter p h c.requires.sparse a cs mask c.requires.rows c.requires.ids cuts

pub union_::filter_sparse-returns-clause-cut :
    goal.union_::filter_sparse-returns-clause-cut
union_::filter_sparse-returns-clause-cut t c =
    let p = c.args.array.now in let h = c.children-columns.ensures.valid in let mask = c.args.mask.now.bits.bits in
    let a = c.args.ids in let cs = c.in_ok-cut.cut in
    let cuts = cuts_ready c.share.result c.len.result c.args.policy.now _ c.in_ok-ready.ensures c.share.ensures c.children-columns.ensures.value c.in_ok-cut.ensures in
    rw c.with_parts.ensures (is_filter-sparse p h c.requires.sparse a cs mask c.requires.rows c.requires.ids cuts)

pub union_::filter_sparse-returns-clause-parts :
    goal.union_::filter_sparse-returns-clause-parts
union_::filter_sparse-returns-clause-parts t c =
    let p = c.args.array.now in let mask = c.args.mask.now.bits.bits in let cs = c.in_ok-cut.cut in
    let cuts = cuts_ready c.share.result c.len.result c.args.policy.now _ c.in_ok-ready.ensures c.share.ensures c.children-columns.ensures.value c.in_ok-cut.ensures in
    rw c.with_parts.ensures (parts-sparse p mask c.args.ids c.requires.ids cs c.requires.sparse cuts)

pub union_::filter_variants-with_parts-requires :
    goal.union_::filter_variants-with_parts-requires
union_::filter_variants-with_parts-requires t c =
    let p = c.args.array.now in let h = c.type_ids.ensures.valid in let mask = c.args.mask.now.bits.bits in
    let a = c.in_ok-ids.ids in let o = c.in-Some.offsets.now in
    let some : p.offsets ≡ Some o = sym c.in-Some.ensures.value in
    let cut : IsCut p.ids (items_where_true mask p.ids.rows) a = subst (λ (x : Column). IsCut x (items_where_true mask x.rows) a) (c.deref.ensures ∙ c.type_ids.ensures.value) (rw c.in_ok-ids.ensures c.in_ok-filter_values.ensures.cut) in
    ap₂ (λ (r : RecordParts) (cs : List Column). union_fault (record p { ids = a; offsets = Some r; columns = cs })) c.in_ok-places-in-Some.ensures (c.share-columns.ensures ∙ c.children.ensures.value)
    ∙ fault-dense-filter p o h some a mask (c.requires ∙ rows-union p h) cut

pub union_::filter_variants-returns-in_ok-places-in-Some-clause-cut :
    goal.union_::filter_variants-returns-in_ok-places-in-Some-clause-cut
union_::filter_variants-returns-in_ok-places-in-Some-clause-cut t c =
    let p = c.args.array.now in let h = c.type_ids.ensures.valid in let mask = c.args.mask.now.bits.bits in
    let a = c.in_ok-ids.ids in let o = c.in-Some.offsets.now in
    let some : p.offsets ≡ Some o = sym c.in-Some.ensures.value in
    let cut : IsCut p.ids (items_where_true mask p.ids.rows) a = subst (λ (x : Column). IsCut x (items_where_true mask x.rows) a) (c.deref.ensures ∙ c.type_ids.ensures.value) (rw c.in_ok-ids.ensures c.in_ok-filter_values.ensures.cut) in
    let q : c.with_parts.result ≡ record p { ids = a; offsets = Some (records_with o (items_where_true mask o.records) non_nullable) } =
    c.with_parts.ensures
    ∙ ap₂ (λ (r : RecordParts) (cs : List Column). let u : UnionParts = record p { ids = a; offsets = Some r; columns = cs } in u) c.in_ok-places-in-Some.ensures (c.share-columns.ensures ∙ c.children.ensures.value) in
    subst (λ (u : UnionParts). IsCut (union_column p) (items_where_true mask (union_column p).rows) (union_column u)) (sym q) (is_filter-dense p o h some a mask cut)

pub union_::filter_variants-returns-in_ok-places-in-Some-clause-parts :
    goal.union_::filter_variants-returns-in_ok-places-in-Some-clause-parts
union_::filter_variants-returns-in_ok-places-in-Some-clause-parts t c =
    let p = c.args.array.now in let mask = c.args.mask.now.bits.bits in
    let a = c.in_ok-ids.ids in let o = c.in-Some.offsets.now in
    let some : p.offsets ≡ Some o = sym c.in-Some.ensures.value in
    let cut : IsCut p.ids (items_where_true mask p.ids.rows) a = subst (λ (x : Column). IsCut x (items_where_true mask x.rows) a) (c.deref.ensures ∙ c.type_ids.ensures.value) (rw c.in_ok-ids.ensures c.in_ok-filter_values.ensures.cut) in
    let q : c.with_parts.result ≡ record p { ids = a; offsets = Some (records_with o (items_where_true mask o.records) non_nullable) } =
    c.with_parts.ensures
    ∙ ap₂ (λ (r : RecordParts) (cs : List Column). let u : UnionParts = record p { ids = a; offsets = Some r; columns = cs } in u) c.in_ok-places-in-Some.ensures (c.share-columns.ensures ∙ c.children.ensures.value) in
    subst (IsUnionFilter p mask) (sym q) (parts-dense p mask a cut o some)

pub union_::filter_variants-returns-in-None-clause-form :
    goal.union_::filter_variants-returns-in-None-clause-form
union_::filter_variants-returns-in-None-clause-form t c =
    if_ok c.filter_sparse.result c.filter_sparse.ensures.sparse (λ u is. ap offsets_kind (is ∙ c.in-None.ensures.value))
