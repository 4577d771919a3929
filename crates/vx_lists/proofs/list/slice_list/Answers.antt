-- The lists between.
use Rattle.std.proofs.Common.{◌∙◌, ◌+◌, ap, length, slice_range, arith}
use Rattle.vx_model.specs.List.{ListParts, list_spans}
use Rattle.vx_model.specs.Lists.{lists_of}
use Rattle.vx_model.specs.Records.{RecordParts, records_with}
use Rattle.vx_model.specs.Valid.{non_nullable}
use Rattle.vx_column.specs.Validity.{valid_of}
use Rattle.vx_lists.proofs.MadeLists.{end_within, list_sliced, same_list}
use Rattle.vx_lists.proofs.list.slice_list.Goals as goal

pub slice_offsets-offsets-requires-clause-within : goal.slice_offsets-offsets-requires-clause-within
slice_offsets-offsets-requires-clause-within c =
    omega (arith, end_within c.args.array.now c.args.end c.offsets.ensures.valid c.requires.within, ap (λ (n : RecordParts). length n.records) c.offsets.ensures.value)

pub with_parts-requires-clause-valid : goal.with_parts-requires-clause-valid
with_parts-requires-clause-valid c =
    let p = c.args.array.now in let v = valid_of c.args.validity in
    let cut : RecordParts → RecordParts = λ n. records_with n (slice_range n.records c.args.start (c.args.end + 1)) non_nullable in
    (same_list p v _ c.slice_offsets-offsets.result _ c.share-elements.result (c.slice_offsets-offsets.ensures ∙ ap cut c.offsets.ensures.value) (c.share-elements.ensures ∙ c.elements.ensures.value)
    (list_sliced p c.args.start c.args.end v c.elements.ensures.valid c.requires.ordered c.requires.within c.requires.fitting)).0

pub returns-clause-lists : goal.returns-clause-lists
returns-clause-lists c =
    let p = c.args.array.now in let v = valid_of c.args.validity in
    let cut : RecordParts → RecordParts = λ n. records_with n (slice_range n.records c.args.start (c.args.end + 1)) non_nullable in
    ap (λ (q : ListParts). lists_of (list_spans q)) c.with_parts.ensures
    ∙ (same_list p v _ c.slice_offsets-offsets.result _ c.share-elements.result (c.slice_offsets-offsets.ensures ∙ ap cut c.offsets.ensures.value) (c.share-elements.ensures ∙ c.elements.ensures.value)
    (list_sliced p c.args.start c.args.end v c.elements.ensures.valid c.requires.ordered c.requires.within c.requires.fitting)).1
