-- Sound parts of the same variants.
use Rattle.std.proofs.Common.{◌≡◌, None, ◌∙◌, ap}
use Rattle.vx_types.specs.FieldTypes.{VariantTypes}
use Rattle.vx_model.specs.Union.{UnionParts, union_fault}
use Rattle.vx_column.specs.UnionParts.{union_parts, IsUnion}
use Rattle.vx_column.proofs.union_.UnionArray.with_parts.Goals as goal

pub invariant_of-result : goal.invariant_of-result
invariant_of-result c =
    let same : c.self.inside.variants ≡ c.args.self.now.variants = ap (λ (p : UnionParts). p.variants) c.self.view_is in
    record {
      valid = ap (λ (v : VariantTypes). union_fault (union_parts c.args.type_ids c.args.offsets v c.args.children)) (c.share.ensures ∙ same) ∙ c.requires;
      carried = rw c.share.ensures c.self.invariant.carried;
    }
