-- The views between.
use Rattle.std.proofs.Common.{◌≡◌, ◌∙◌, None, ap, sym, subst, slice_range}
use Rattle.vx_model.specs.Column.{Column}
use Rattle.vx_model.specs.ListView.{ListViewParts, listview_fault, listview_spans}
use Rattle.vx_model.specs.Lists.{lists_of}
use Rattle.vx_model.specs.Records.{RecordParts, records_with}
use Rattle.vx_model.specs.Valid.{non_nullable}
use Rattle.vx_column.specs.Validity.{valid_of}
use Rattle.vx_lists.proofs.ViewRows.{same_views, views_sliced}
use Rattle.vx_lists.proofs.listview.slice_view.Goals as goal

pub with_parts-requires-clause-valid : goal.with_parts-requires-clause-valid
with_parts-requires-clause-valid c =
    let p = c.args.array.now in let v = valid_of c.args.validity in
    let cut : RecordParts → RecordParts = λ n. records_with n (slice_range n.records c.args.start c.args.end) non_nullable in
    let made = same_views p v _ c.slice_numbers-offsets.result c.slice_numbers-sizes.result _ _ (c.slice_numbers-offsets.ensures ∙ ap cut c.offsets.ensures.value) (c.slice_numbers-sizes.ensures ∙ ap cut c.sizes.ensures.value)
    (views_sliced p c.args.start c.args.end v c.elements.ensures.valid c.requires.ordered c.requires.within c.requires.fitting) in
    subst (λ (e : Column). listview_fault (record { elements = e; offsets = c.slice_numbers-offsets.result; sizes = c.slice_numbers-sizes.result; valid = v }) ≡ None)
    (sym (c.share-elements.ensures ∙ c.elements.ensures.value)) made.0

pub returns-clause-lists : goal.returns-clause-lists
returns-clause-lists c =
    let p = c.args.array.now in let v = valid_of c.args.validity in
    let cut : RecordParts → RecordParts = λ n. records_with n (slice_range n.records c.args.start c.args.end) non_nullable in
    let made = same_views p v _ c.slice_numbers-offsets.result c.slice_numbers-sizes.result _ _ (c.slice_numbers-offsets.ensures ∙ ap cut c.offsets.ensures.value) (c.slice_numbers-sizes.ensures ∙ ap cut c.sizes.ensures.value)
    (views_sliced p c.args.start c.args.end v c.elements.ensures.valid c.requires.ordered c.requires.within c.requires.fitting) in
    ap (λ (q : ListViewParts). lists_of (listview_spans q)) c.with_parts.ensures
    ∙ ap (λ (e : Column). lists_of (listview_spans (record { elements = e; offsets = c.slice_numbers-offsets.result; sizes = c.slice_numbers-sizes.result; valid = v }))) (c.share-elements.ensures ∙ c.elements.ensures.value)
    ∙ made.1
