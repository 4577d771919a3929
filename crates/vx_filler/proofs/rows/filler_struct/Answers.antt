-- The fields are of the types, as long, and fitted by the validity.
use Rattle.std.proofs.Common.{◌≡◌, ap, ◌∙◌}
use Rattle.vx_model.specs.Column.{Column}
use Rattle.vx_model.specs.Struct.{struct_column}
use Rattle.vx_column.specs.StructParts.{struct_parts}
use Rattle.vx_column.specs.Validity.{valid_of}
use Rattle.vx_filler.proofs.FilledRows.{dtype-structs, made-structs, rows-structs}
use Rattle.vx_filler.proofs.rows.filler_struct.Goals as goal

pub unreachable-requires : goal.unreachable-requires
unreachable-requires c =
    let v = c.filler_validity-validity in
    let made = made-structs c.args.columns c.args.fields.now c.share.result c.args.len v.result c.args.nullability v.ensures c.requires.types c.requires.long c.share.ensures c.try_new_with_dtype.ensures in
    cc

pub returns-clause-dtype : goal.returns-clause-dtype
returns-clause-dtype c =
    let v = c.filler_validity-validity in
    let made = made-structs c.args.columns c.args.fields.now c.share.result c.args.len v.result c.args.nullability v.ensures c.requires.types c.requires.long c.share.ensures c.try_new_with_dtype.ensures in
    let same : c.in-Ok.structs ≡ struct_parts c.args.columns c.args.fields.now c.args.len v.result = cc in
    ap (λ (a : Column). a.dtype) (c.into_array.ensures ∙ ap struct_column same)
    ∙ dtype-structs c.args.columns c.args.fields.now c.args.len (valid_of v.result) c.args.nullability v.ensures

pub returns-clause-rows : goal.returns-clause-rows
returns-clause-rows c =
    let v = c.filler_validity-validity in
    let made = made-structs c.args.columns c.args.fields.now c.share.result c.args.len v.result c.args.nullability v.ensures c.requires.types c.requires.long c.share.ensures c.try_new_with_dtype.ensures in
    let same : c.in-Ok.structs ≡ struct_parts c.args.columns c.args.fields.now c.args.len v.result = cc in
    ap (λ (a : Column). a.rows) (c.into_array.ensures ∙ ap struct_column same)
    ∙ rows-structs c.args.columns c.args.fields.now c.args.len (valid_of v.result) c.args.nullability v.ensures c.requires.rows
