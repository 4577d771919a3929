-- The parts have no fault.
use Rattle.std.proofs.Common.{Some, ap, ◌∙◌, sym}
use Rattle.vx_bits.specs.Results.{ok_unless}
use Rattle.vx_types.specs.FieldTypes.{VariantTypes}
use Rattle.vx_model.specs.Union.{UnionParts, union_column, union_fault}
use Rattle.vx_column.specs.UnionParts.{union_parts}
use Rattle.vx_interleave.proofs.unions.unions.Goals as goal
use Rattle.vx_bits.proofs.Results.{made, no_refusal}

pub unreachable-requires : goal.unreachable-requires
unreachable-requires c =
    let p = union_parts c.args.ids (Some c.args.places) c.args.variants.now c.args.columns in
    let told = c.try_new_dense.ensures ∙ ap (λ (v : VariantTypes). let q : UnionParts = union_parts c.args.ids (Some c.args.places) v c.args.columns in ok_unless (union_fault q) q) c.share.ensures in
    no_refusal (union_fault p) p c.in-Err.field-0 c.requires (sym c.in-Err.is ∙ told)

pub returns : goal.returns
returns c =
    let p = union_parts c.args.ids (Some c.args.places) c.args.variants.now c.args.columns in
    let told = c.try_new_dense.ensures ∙ ap (λ (v : VariantTypes). let q : UnionParts = union_parts c.args.ids (Some c.args.places) v c.args.columns in ok_unless (union_fault q) q) c.share.ensures in
    c.into_array.ensures ∙ ap union_column (made (union_fault p) p c.in-Ok.unions (sym c.in-Ok.is ∙ told))
