-- The parts are a column.
use Rattle.std.proofs.Common.{◌≡◌, sym, ap, ap₂, ◌∙◌}
use Rattle.vx_types.specs.TypeTree.{primitive_kind}
use Rattle.vx_types.specs.declared.ptype.PType.TheVariants.{I64}
use Rattle.vx_model.specs.Valid.{by_column}
use Rattle.vx_model.specs.Bool.{bits_column}
use Rattle.vx_model.specs.Records.{RecordParts, records_fault}
use Rattle.vx_column.specs.Validity.{valid_of}
use Rattle.vx_rows.specs.Made.{drawn_indices}
use Rattle.vx_rows.proofs.MadeRows.{no_parts_fault}
use Rattle.vx_rows.proofs.made.index_column.Goals as goal
use Rattle.vx_bits.proofs.Results.{no_refusal}

pub unreachable-requires : goal.unreachable-requires
unreachable-requires c =
    let ds = c.args.draws.now in
    let parts : RecordParts = record { kind = primitive_kind I64; width = 8; records = c.in_ok-index_records.field-0; valid = valid_of c.in_ok-validity.validity } in
    let there = c.in_ok-validity.ensures ∙ ap (λ bits. by_column (bits_column bits.bits 0)) c.in_ok-presence.ensures in
    let is : parts ≡ drawn_indices c.args.kept ds =
    ap₂ (λ records valid. record { kind = primitive_kind I64; width = 8; records = records; valid = valid }) c.in_ok-index_records.ensures there in
    no_refusal (records_fault parts) parts c.in-Err.field-0 (ap records_fault is ∙ no_parts_fault c.args.kept ds) (sym c.in-Err.is ∙ c.try_new.ensures)
