-- The records are as wide as the type, and as many as the validity is for.
use Rattle.std.proofs.Common.{◌≡◌, true, length, subst, sym, ap, ◌∙◌}
use Rattle.std.proofs.lemmas.List.FromFn.{length-map-range_with_len}
use Rattle.vx_bits.specs.Records.{records_of, width_of}
use Rattle.vx_types.specs.PType.{width}
use Rattle.vx_model.specs.Valid.{is_fitting}
use Rattle.vx_column.specs.Validity.{valid_of}
use Rattle.vx_arrow.specs.Image.{record_at}
use Rattle.vx_arrow.proofs.SoundColumns.{numbers_same}
use Rattle.vx_arrow.proofs.copies.numbers_in.Goals as goal

pub record_column-requires-clause-fitting : goal.record_column-requires-clause-fitting
record_column-requires-clause-fitting c =
    let long = ap length c.in_ok-records.ensures.records ∙ length-map-range_with_len (record_at (width c.args.ptype) c.args.bytes.now) c.args.offset c.args.len in
    subst (λ n. is_fitting (valid_of c.args.validity) n ≡ true) (sym long) c.requires.fitting

pub returns : goal.returns
returns c =
    let r = c.in_ok-records.records in
    c.record_column.ensures
    ∙ numbers_same c.args.ptype (width_of r) (records_of r) (valid_of c.args.validity) c.args.bytes.now c.args.offset c.args.len c.in_ok-records.ensures.width c.in_ok-records.ensures.records
