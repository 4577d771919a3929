-- No element is left where no row is valid, and else what the filter leaves is the selected lists.
use Rattle.std.proofs.Common.{◌≡◌, ◌+◌, ◌≤◌, ◌∙◌, length, sym, ap, arith}
use Rattle.std.proofs.lemmas.List.{length-map}
use Rattle.vx_offsets.specs.Offsets.{items_in, offset_positions}
use Rattle.vx_model.specs.List.{list_spans}
use Rattle.vx_model.specs.Lists.{lists_of}
use Rattle.vx_model.specs.Numbers.{integers_of}
use Rattle.vx_model.proofs.Spans.{length-spans}
use Rattle.vx_column.specs.Validity.{valid_of}
use Rattle.vx_offsets.specs.Cut.{type_of}
use Rattle.vx_lists.specs.Lists.{last_offset}
use Rattle.vx_lists.proofs.MadeLists.{bounded_in_type, empty_leaves, filter_leaves, some_stay}
use Rattle.vx_lists.proofs.list.left_by.Goals as goal

pub returns-then-is_all_invalid-clause-left : goal.returns-then-is_all_invalid-clause-left
returns-then-is_all_invalid-clause-left c =
    let p = list_spans c.args.array.now in
    let long = c.requires ∙ sym (length-map p.spans (items_in p.elements.rows)) in
    empty_leaves (valid_of c.args.validity.now) c.args.mask.now.bits.bits (lists_of p) c.true_count.result _ _ _ (sym c.is_all_invalid.ensures ∙ c.if-is_all_invalid.true) long c.true_count.ensures.count c.in_ok-filter.ensures.offsets c.in_ok-filter.ensures.mask

pub filter_lists-requires-clause-counted : goal.filter_lists-requires-clause-counted
filter_lists-requires-clause-counted c =
    let positions = offset_positions (integers_of c.args.array.now.offsets) in
    omega (arith, c.requires, length-spans positions, ap length (c.as_slice.ensures.value ∙ c.in_ok-offsets.ensures.value), ap length c.as_slice.ensures.value, c.in_ok-offsets.ensures.offsets.some)

pub returns-clause-left : goal.returns-clause-left
returns-clause-left c =
    let positions = offset_positions (integers_of c.args.array.now.offsets) in
    let seen = c.as_slice.result.now in
    let same = c.as_slice.ensures.value in
    let counted : length seen ≡ length c.args.mask.now.bits.bits + 1 = omega (arith, c.requires, length-spans positions, ap length (same ∙ c.in_ok-offsets.ensures.value), ap length same, c.in_ok-offsets.ensures.offsets.some) in
    let within : last_offset seen ≤ length c.args.array.now.elements.rows = omega (arith, ap last_offset same, c.in_ok-offsets.ensures.within) in
    let filter = c.in_ok-filter-2.ensures in
    some_stay (valid_of c.args.validity.now) c.in_ok-filter-2.filter.offsets.items _ _ (sym c.is_all_invalid.ensures ∙ c.if-is_all_invalid.false)
    (filter_leaves positions seen c.args.mask.now.bits.bits c.in_ok-filter-2.filter.range _ _ c.args.array.now.elements.rows (same ∙ c.in_ok-offsets.ensures.value)
    (rw same c.in_ok-offsets.ensures.offsets) counted filter.inside.0 filter.inside.1 within filter.set filter.sums)

pub returns-clause-small : goal.returns-clause-small
returns-clause-small c =
    let offsets = c.in_ok-offsets.offsets.items in
    bounded_in_type (type_of c.args.array.now.offsets.kind) offsets c.in_ok-filter-2.filter.offsets.items c.in_ok-offsets.ensures.offsets c.in_ok-offsets.ensures.small
    (λ k d h. let bound = c.in_ok-filter-2.ensures.bounded k d h in omega (arith, bound, ap last_offset c.as_slice.ensures.value))
