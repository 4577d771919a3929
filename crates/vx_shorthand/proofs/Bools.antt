-- A type of bools is flat.
use Rattle.std.proofs.Common.{◌≡◌, true, refl}
use Rattle.vx_types.specs.TypeTree.{TypeKind, TypeTree, is_bool_kind, is_flat, is_flat_kind, null_kind, bool_kind, primitive_kind, decimal_kind, utf8_kind, binary_kind, list_kind, fixed_kind, map_kind, struct_kind, union_kind, extension_kind}
use Rattle.vx_reading.specs.BoolRows.{is_bool_type}

flat_kind : (k : TypeKind) → is_bool_kind k ≡ true → is_flat_kind k ≡ true
flat_kind null_kind h = refl
flat_kind bool_kind h = refl
flat_kind (primitive_kind p) h = refl
flat_kind (decimal_kind p s w) h = refl
flat_kind utf8_kind h = cc
flat_kind binary_kind h = cc
flat_kind (list_kind k n) h = cc
flat_kind (fixed_kind k n size) h = cc
flat_kind (map_kind names ts) h = cc
flat_kind (struct_kind names ts) h = cc
flat_kind (union_kind ids names ts) h = cc
flat_kind (extension_kind name k) h = cc

pub flat_bools : (t : TypeTree) → is_bool_type t ≡ true → is_flat t ≡ true
flat_bools t h = flat_kind t.kind h
