-- The constructor's answer.
use Rattle.std.proofs.Common.{◌≡◌, ap, sym, ◌∙◌}
use Rattle.vx_types.specs.DType.{type_of}
use Rattle.vx_model.specs.Extension.{extension_column}
use Rattle.vx_column_json.specs.Extension.{extension_parts}
use Rattle.vx_column_json.proofs.Extensions.{is_sound}
use Rattle.vx_column_json.proofs.extension.extension_made.Goals as goal

pub unreachable-requires : goal.unreachable-requires
unreachable-requires c =
    let sound = is_sound _ _ c.args.storage _ c.args.name.now (type_of c.share.result) c.in_ok-ext.ensures c.in_ok-name.ensures.ok (ap type_of c.share.ensures ∙ c.dtype.ensures.value) c.in_ok-into_ref.ensures in
    let both = sym c.in-Err.is ∙ c.try_new.ensures ∙ sound in
    absurd cc

pub returns : goal.returns
returns c =
    let sound = is_sound _ _ c.args.storage _ c.args.name.now (type_of c.share.result) c.in_ok-ext.ensures c.in_ok-name.ensures.ok (ap type_of c.share.ensures ∙ c.dtype.ensures.value) c.in_ok-into_ref.ensures in
    let both = sym c.in-Ok.is ∙ c.try_new.ensures ∙ sound in
    let same : c.in-Ok.column ≡ extension_parts c.args.name.now c.args.storage = cc in
    c.into_array.ensures ∙ ap extension_column same
