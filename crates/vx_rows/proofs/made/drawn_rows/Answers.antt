-- Rows without nulls are the records.
use Rattle.std.proofs.Common.{◌≡◌, map, refl, ap, ◌∙◌}
use Rattle.std.specs.Int.{to_le_bytes, w32}
use Rattle.std.proofs.lemmas.Simd.{map-map}
use Rattle.vx_types.specs.RowValue.{bytes}
use Rattle.vx_types.specs.TypeTree.{primitive_kind}
use Rattle.vx_types.specs.declared.ptype.PType.TheVariants.{U32}
use Rattle.vx_model.specs.Column.{Column}
use Rattle.vx_model.specs.Valid.{non_nullable}
use Rattle.vx_model.specs.Records.{RecordParts, records_column}
use Rattle.vx_model.proofs.Layouts.{rows-records-non_nullable}
use Rattle.vx_rows.proofs.made.drawn_rows.Goals as goal

pub returns-clause-rows : goal.returns-clause-rows
returns-clause-rows c =
    let ds = c.args.draws.now in
    let parts : RecordParts = record { kind = primitive_kind U32; width = 4; records = c.in_ok-row_records.field-0; valid = non_nullable } in
    let is : c.number_column.result ≡ parts = c.number_column.ensures in
    ap (λ (x : Column). x.rows) c.into_array.ensures
    ∙ ap (λ (p : RecordParts). (records_column p).rows) is
    ∙ rows-records-non_nullable parts refl
    ∙ ap (map bytes) c.in_ok-row_records.ensures
    ∙ map-map bytes (to_le_bytes w32) ds
