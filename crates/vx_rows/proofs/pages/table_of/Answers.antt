-- The fields of sound structs are a table.
use Rattle.std.proofs.Common.{◌≡◌, None, sym, ◌∙◌, ap}
use Rattle.vx_bits.specs.Results.{ok_unless}
use Rattle.vx_types.specs.FieldTypes.{FieldTypes}
use Rattle.vx_types.specs.Fields.{fields_fault}
use Rattle.vx_table.specs.Table.{TableValue, table_fault, table_of}
use Rattle.vx_rows.specs.Tables.{fields_table}
use Rattle.vx_rows.proofs.Paged.{table_sound}
use Rattle.vx_rows.proofs.pages.table_of.Goals as goal

pub unreachable-requires : goal.unreachable-requires
unreachable-requires c =
    let s = c.args.structs.now in
    let types : c.deref.result.now ≡ s.types = c.deref.ensures ∙ c.struct_fields.ensures.value in
    let names = c.in_ok-names.ensures ∙ c.names.ensures.value ∙ ap (λ (t : FieldTypes). t.names) types in
    let columns = c.share.ensures ∙ c.fields.ensures.value in
    let t : TableValue = table_of c.in_ok-names.names c.share.result c.len.result in
    let same : t ≡ fields_table s = λ i. record { names = names i; columns = columns i; len = c.len.ensures i } in
    let sound : table_fault t ≡ None = ap table_fault same ∙ table_sound s c.fields.ensures.valid (ap fields_fault (sym types) ∙ c.names.ensures.valid) in
    let made = c.try_new.ensures ∙ ap (λ fault. ok_unless fault t) sound in
    cc
