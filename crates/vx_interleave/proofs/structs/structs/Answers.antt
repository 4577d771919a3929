-- The fields are of the types, as long, and fitted by the validity.
use Rattle.std.proofs.Common.{◌≡◌, ap, ◌∙◌}
use Rattle.vx_model.specs.Struct.{struct_column}
use Rattle.vx_column.specs.StructParts.{struct_parts}
use Rattle.vx_interleave.proofs.FieldRows.{made_structs}
use Rattle.vx_interleave.proofs.structs.structs.Goals as goal

pub unreachable-requires : goal.unreachable-requires
unreachable-requires c =
    let made = made_structs c.args.columns c.args.fields.now c.share.result c.args.len c.args.validity c.requires.types c.requires.long c.requires.fitting c.share.ensures c.try_new_with_dtype.ensures in
    cc

pub returns : goal.returns
returns c =
    let made = made_structs c.args.columns c.args.fields.now c.share.result c.args.len c.args.validity c.requires.types c.requires.long c.requires.fitting c.share.ensures c.try_new_with_dtype.ensures in
    let same : c.in-Ok.structs ≡ struct_parts c.args.columns c.args.fields.now c.args.len c.args.validity = cc in
    c.into_array.ensures ∙ ap struct_column same
