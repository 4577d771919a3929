-- The sliced parts make the sliced column.
use Rattle.std.proofs.Common.{length, slice_range, ap, ◌∙◌, sym}
use Rattle.vx_model.specs.Valid.{is_fitting, nullability_by}
use Rattle.vx_model.specs.Records.{records_column, records_with}
use Rattle.vx_model.proofs.Layouts.{fits-records, items-records}
use Rattle.vx_model.proofs.Steps.{fitting-slice, is_slice-records}
use Rattle.vx_column.specs.Validity.{valid_of}
use Rattle.vx_stored.proofs.record_array.RecordArrayStoredRows.slice.Goals as goal

pub with_rows-requires-clause-fitting : goal.with_rows-requires-clause-fitting
with_rows-requires-clause-fitting c =
    let p = c.args.self.now in let s = c.args.start in let e = c.args.end in let v = valid_of c.args.valid in
    ap (λ r. is_fitting v (length r)) (c.slice-values.ensures.records ∙ ap (λ r. slice_range r s e) c.values.ensures.records)
    ∙ fitting-slice p.records p.valid v (nullability_by p.valid) _ (sym (items-records p)) (fits-records p c.values.ensures.valid) s e c.requires.ordered c.requires.within c.requires.left

pub returns : goal.returns
returns c =
    let p = c.args.self.now in let s = c.args.start in let e = c.args.end in let v = valid_of c.args.valid in
    let cut = c.slice-values.ensures.records ∙ ap (λ r. slice_range r s e) c.values.ensures.records in
    rw (c.into_array.ensures ∙ ap records_column (c.with_rows.ensures ∙ ap (λ r. records_with p r v) cut))
    (is_slice-records p v s e c.values.ensures.valid c.requires.ordered c.requires.within c.requires.left c.requires.plain)
