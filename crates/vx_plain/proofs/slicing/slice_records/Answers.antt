-- The sliced parts make the sliced column.
use Rattle.std.proofs.Common.{◌≡◌, ◌≤◌, length, true, rules, ap, ap₂, ◌∙◌, slice_range, arith}
use Rattle.vx_model.specs.Valid.{cover_by, is_constant_form}
use Rattle.vx_model.specs.Plain.{is_plain}
use Rattle.vx_model.specs.Records.{stored_records, records_column, records_with}
use Rattle.vx_model.proofs.Layouts.{length-records, items-records, fits-records, null_layout-records, row_layout-records}
use Rattle.vx_model.proofs.ShownRows.{is_left-slice, is_as_plain}
use Rattle.vx_model.proofs.Steps.{is_slice-records}
use Rattle.vx_column.specs.Validity.{valid_of}
use Rattle.vx_plain.proofs.slicing.slice_records.Goals as goal

pub returns-clause-slice : goal.returns-clause-slice
returns-clause-slice c =
    let p = c.args.array.now in let s = c.args.start in let e = c.args.end in
    let sound = c.validity.ensures.valid in
    let k : is_constant_form (cover_by p.valid) ≡ true = search rules in
    let plain : is_plain (records_column p) ≡ true = rw (null_layout-records p.kind, row_layout-records p.kind) k in
    let v : valid_of c.share.result ≡ p.valid = ap valid_of c.share.ensures ∙ c.validity-2.ensures.value in
    let inside : e ≤ length (stored_records p).items = omega (arith, length-records p sound, items-records p, c.requires.within) in
    let left = is_left-slice p.valid (length (stored_records p).items) s e k c.requires.ordered inside (fits-records p sound) in
    let cut = c.slice-values.ensures.records ∙ ap (λ r. slice_range r s e) c.values.ensures.records in
    let whole = c.into_array.ensures ∙ ap records_column (c.with_rows.ensures ∙ ap₂ (records_with p) cut v) in
    rw whole (plain, is_slice-records p p.valid s e sound c.requires.ordered inside left (is_as_plain p.valid))
