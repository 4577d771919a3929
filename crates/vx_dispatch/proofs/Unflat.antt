-- No column of lists is of a flat type.
use Rattle.std.proofs.Common.{◌≡◌, false, Some, refl}
use Rattle.vx_types.specs.TypeTree.{TypeKind, TypeTree, is_flat_kind, null_kind, bool_kind, primitive_kind, decimal_kind}
use Rattle.vx_model.specs.Extension.{storage_kind}
use Rattle.vx_model.specs.Lists.{elements_type}

pub unflat-lists : (k : TypeKind) (t : TypeTree) → elements_type (storage_kind k) ≡ Some t → is_flat_kind k ≡ false
unflat-lists null_kind t h = cc
unflat-lists bool_kind t h = cc
unflat-lists (primitive_kind p) t h = cc
unflat-lists (decimal_kind p s w) t h = cc
unflat-lists k t h = refl

pub ruleset unflat = (unflat-lists)
