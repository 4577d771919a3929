-- The shared parts equal the union's own, and so are as sound.
use Rattle.std.proofs.Common.{subst, sym, ◌∙◌, ap, ap₂}
use Rattle.vx_types.specs.FieldTypes.{VariantTypes}
use Rattle.vx_column.specs.UnionParts.{union_parts, IsUnion}
use Rattle.vx_column.proofs.union_.UnionArray.share.Goals as goal

pub invariant_of-result : goal.invariant_of-result
invariant_of-result c = rw (c.share.ensures, c.shared.ensures, c.share-2.ensures, c.share-3.ensures) c.self.invariant
