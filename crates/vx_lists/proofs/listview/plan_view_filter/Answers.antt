-- The views that stay.
use Rattle.std.proofs.Common.{◌∙◌, ap, sym, length}
use Rattle.std.specs.List.{items_where_true}
use Rattle.vx_model.specs.Records.{RecordParts, records_with}
use Rattle.vx_model.specs.Valid.{non_nullable}
use Rattle.vx_column.specs.Validity.{valid_of}
use Rattle.vx_model.proofs.ListRows.{many-listview, spans-listview}
use Rattle.vx_lists.proofs.ViewRows.{same_views, views_filtered}
use Rattle.vx_lists.proofs.listview.plan_view_filter.Goals as goal

pub filter_numbers-requires : goal.filter_numbers-requires
filter_numbers-requires c =
    c.requires.long ∙ spans-listview c.args.array.now c.offsets.ensures.valid ∙ sym (ap (λ (n : RecordParts). length n.records) c.offsets.ensures.value)

pub filter_numbers-requires-2 : goal.filter_numbers-requires-2
filter_numbers-requires-2 c =
    c.requires.long ∙ spans-listview c.args.array.now c.offsets.ensures.valid ∙ many-listview c.args.array.now c.offsets.ensures.valid ∙ sym (ap (λ (n : RecordParts). length n.records) c.sizes.ensures.value)

pub returns-clause-lists : goal.returns-clause-lists
returns-clause-lists c =
    let p = c.args.array.now in let v = valid_of c.args.validity in let bits = c.args.mask.now.bits.bits in
    let kept : RecordParts → RecordParts = λ n. records_with n (items_where_true bits n.records) non_nullable in
    same_views p v _ c.in_ok-offsets.offsets c.in_ok-sizes.sizes _ _ (c.in_ok-offsets.ensures ∙ ap kept c.offsets.ensures.value) (c.in_ok-sizes.ensures ∙ ap kept c.sizes.ensures.value)
    (views_filtered p bits v c.offsets.ensures.valid c.requires.long c.requires.fitting)
