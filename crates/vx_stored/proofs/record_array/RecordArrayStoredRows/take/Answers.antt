-- The parts at the picks make the column at the picks.
use Rattle.std.proofs.Common.{ap, ap₂, ◌∙◌}
use Rattle.vx_take.specs.Picks.{at}
use Rattle.vx_model.specs.Valid.{nullability_by}
use Rattle.vx_model.specs.Records.{records_column, records_with}
use Rattle.vx_model.proofs.Takes.{is_take-records}
use Rattle.vx_column.specs.Validity.{valid_of}
use Rattle.vx_stored.specs.Records.{zero_record}
use Rattle.vx_stored.proofs.record_array.RecordArrayStoredRows.take.Goals as goal

pub returns : goal.returns
returns c =
    let p = c.args.self.now in let v = valid_of c.args.valid in let picks = c.args.picks.now.picks in
    let taken = c.in_ok-values.ensures.records ∙ ap₂ (λ w r. at (zero_record w) r picks) c.values.ensures.width c.values.ensures.records in
    rw (c.into_array.ensures ∙ ap records_column (c.with_rows.ensures ∙ ap (λ r. records_with p r v) taken))
    (is_take-records v picks (nullability_by v) p (zero_record p.width) c.values.ensures.valid c.requires.left)
