-- The records under the validity.
use Rattle.std.proofs.Common.{map, length, ap, sym, ◌∙◌}
use Rattle.std.proofs.lemmas.List.{length-map}
use Rattle.vx_bits.specs.Records.{records_of}
use Rattle.vx_types.specs.RowValue.{bytes}
use Rattle.vx_model.specs.Column.{Column}
use Rattle.vx_model.specs.Plain.{is_lazy_layout, is_unwrapped}
use Rattle.vx_model.specs.Valid.{cover_by}
use Rattle.vx_types.specs.RecordType.{kind_of}
use Rattle.vx_column.specs.Validity.{valid_of}
use Rattle.vx_interleave.specs.Rows.{rows_in, stored_as}
use Rattle.vx_interleave.proofs.PlainRows.{flat_cover, records_direct, records_unwrapped}
use Rattle.vx_interleave.proofs.Shown.{fits, shown}
use Rattle.vx_interleave.proofs.records.gather_records.Goals as goal

pub record_column-requires-clause-fitting : goal.record_column-requires-clause-fitting
record_column-requires-clause-fitting c =
    let rows = rows_in c.args.cells.now in let k = kind_of c.args.record_type in let records = records_of c.in_ok-records.records in
    fits c.args.nullability rows (valid_of c.in_ok-validity.validity) (length records) c.in_ok-validity.ensures
    (sym (length-map records bytes) ∙ ap length c.in_ok-records.ensures.records ∙ length-map rows (stored_as k))

pub returns-clause-rows : goal.returns-clause-rows
returns-clause-rows c =
    let rows = rows_in c.args.cells.now in let k = kind_of c.args.record_type in
    ap (λ (a : Column). a.rows) c.record_column.ensures
    ∙ shown c.args.nullability k rows (map bytes (records_of c.in_ok-records.records)) (valid_of c.in_ok-validity.validity) c.in_ok-validity.ensures c.in_ok-records.ensures.records

pub returns-clause-direct : goal.returns-clause-direct
returns-clause-direct c = ap (λ (a : Column). is_lazy_layout a.layout) c.record_column.ensures ∙ records_direct (kind_of c.args.record_type)

pub returns-clause-unwrapped : goal.returns-clause-unwrapped
returns-clause-unwrapped c =
    let v = valid_of c.in_ok-validity.validity in
    ap is_unwrapped c.record_column.ensures
    ∙ records_unwrapped (kind_of c.args.record_type) (cover_by v) (flat_cover c.args.nullability (rows_in c.args.cells.now) v c.in_ok-validity.ensures)
