-- What is kept of the parts makes what is kept of the column.
use Rattle.std.proofs.Common.{length, refl, ap, ◌∙◌}
use Rattle.std.specs.List.{items_where_true}
use Rattle.vx_model.specs.Valid.{is_fitting, nullability_by}
use Rattle.vx_model.specs.Records.{records_column, records_with, stored_records}
use Rattle.vx_model.proofs.Layouts.{fits-records, items-records}
use Rattle.vx_model.proofs.Steps.{fitting-filter, is_filter-records}
use Rattle.vx_column.specs.Validity.{valid_of}
use Rattle.vx_stored.proofs.record_array.RecordArrayStoredRows.filter.Goals as goal
use Rattle.vx_mask.proofs.RankedItems.{length-items_where_true}

pub with_rows-requires-clause-fitting : goal.with_rows-requires-clause-fitting
with_rows-requires-clause-fitting c =
    let p = c.args.self.now in let v = valid_of c.args.valid in let mask = c.args.mask.now.bits.bits in
    ap (λ r. is_fitting v (length r)) (c.in_ok-values.ensures.records ∙ ap (items_where_true mask) c.values.ensures.records)
    ∙ ap (is_fitting v) (length-items_where_true mask p.records (c.requires.long ∙ items-records p))
    ∙ fitting-filter (stored_records p).items p.valid v (nullability_by p.valid) _ refl (fits-records p c.values.ensures.valid) mask c.requires.long c.requires.left

pub returns : goal.returns
returns c =
    let p = c.args.self.now in let v = valid_of c.args.valid in let mask = c.args.mask.now.bits.bits in
    let kept = c.in_ok-values.ensures.records ∙ ap (items_where_true mask) c.values.ensures.records in
    rw (c.into_array.ensures ∙ ap records_column (c.with_rows.ensures ∙ ap (λ r. records_with p r v) kept))
    (is_filter-records p v mask c.values.ensures.valid c.requires.long c.requires.left c.requires.plain)
