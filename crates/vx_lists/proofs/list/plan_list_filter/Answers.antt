-- The plan makes the lists that are left.
use Rattle.std.proofs.Common.{◌∙◌, ap, sym, map}
use Rattle.std.specs.Prelude.{pos}
use Rattle.std.proofs.lemmas.List.{length-map}
use Rattle.vx_offsets.specs.Offsets.{items_in}
use Rattle.vx_model.specs.List.{list_spans}
use Rattle.vx_model.specs.Lists.{lists_of}
use Rattle.vx_column.specs.Validity.{valid_of}
use Rattle.vx_lists.proofs.MadeLists.{fits_left, planned_lists}
use Rattle.vx_lists.proofs.list.plan_list_filter.Goals as goal

pub returns-clause-lists : goal.returns-clause-lists
returns-clause-lists c =
    let p = list_spans c.args.array.now in
    let long = c.requires.long ∙ sym (length-map p.spans (items_in p.elements.rows)) in
    let v = valid_of c.args.validity in
    planned_lists c.in_ok-offsets.offsets v c.in_ok-filter.filter.offsets.items _ _ c.in_ok-offsets.ensures.integers
    (c.in_ok-offsets.ensures.numbers ∙ ap (map pos) c.as_slice.ensures.value) c.in_ok-filter.ensures.left (fits_left v c.args.mask.now.bits.bits (lists_of p) long c.requires.fitting)
