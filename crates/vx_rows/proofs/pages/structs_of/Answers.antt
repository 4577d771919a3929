-- The columns of a table are the fields of sound structs.
use Rattle.std.proofs.Common.{◌≡◌, None, ◌∙◌, ap}
use Rattle.vx_bits.specs.Results.{ok_unless}
use Rattle.vx_model.specs.Struct.{StructParts, struct_fault}
use Rattle.vx_model.specs.Valid.{non_nullable}
use Rattle.vx_rows.specs.Tables.{table_structs}
use Rattle.vx_rows.proofs.Paged.{structs_sound}
use Rattle.vx_rows.proofs.pages.structs_of.Goals as goal

pub unreachable-requires : goal.unreachable-requires
unreachable-requires c =
    let t = c.args.table.now in
    let columns = c.share-columns.ensures ∙ c.columns.ensures.value in
    let p : StructParts = record { columns = c.share-columns.result; types = c.in_ok-fields.fields; len = c.len.result; valid = non_nullable } in
    let same : p ≡ table_structs t = λ i. record { columns = columns i; types = c.in_ok-fields.ensures i; len = c.len.ensures i; valid = non_nullable } in
    let sound : struct_fault p ≡ None = ap struct_fault same ∙ structs_sound t c.columns.ensures.long in
    let made = c.try_new_with_dtype.ensures ∙ ap (λ fault. ok_unless fault p) sound in
    cc
