-- When two types are one, as a test.
use Rattle.std.specs.Prelude.{ℕ, nat_eq, Bool, true, false, ◌&&◌, List}
use Rattle.std.specs.Cmp.Lexicographic.{pointwise}
use Rattle.std.specs.Ordering.{int_eq}
use Rattle.vx_types.specs.FieldTypes.{FieldTypes, VariantTypes, ExtensionType}
use Rattle.vx_types.specs.PType.{is_same_ptype}
use Rattle.vx_types.specs.TypeTree.{TypeKind, TypeTree, TypeTrees, types_of, null_kind, bool_kind, primitive_kind, decimal_kind, utf8_kind, binary_kind, list_kind, fixed_kind, map_kind, struct_kind, union_kind, extension_kind, no_types, more_types}
use Rattle.vx_types.specs.declared.nullability.Nullability.{Nullability}
use Rattle.vx_types.specs.declared.nullability.Nullability.TheVariants.{NonNullable, Nullable}

abbrev pub is_same_nullability : Nullability → Nullability → Bool
is_same_nullability NonNullable NonNullable = true
is_same_nullability Nullable Nullable = true
is_same_nullability n m = false

abbrev pub are_same_bytes : List ℕ → List ℕ → Bool
are_same_bytes a b = pointwise nat_eq a b

abbrev pub are_same_names : List (List ℕ) → List (List ℕ) → Bool
are_same_names a b = pointwise are_same_bytes a b

abbrev mutual
  pub is_same_kind : TypeKind → TypeKind → Bool
  is_same_kind null_kind null_kind = true
  is_same_kind bool_kind bool_kind = true
  is_same_kind (primitive_kind p) (primitive_kind q) = is_same_ptype p q
  is_same_kind (decimal_kind p s w) (decimal_kind q t v) =
      nat_eq p q && (int_eq s t && nat_eq w v)
  is_same_kind utf8_kind utf8_kind = true
  is_same_kind binary_kind binary_kind = true
  is_same_kind (list_kind k n) (list_kind l m) = is_same_kind k l && is_same_nullability n m
  is_same_kind (fixed_kind k n size) (fixed_kind l m other) =
      (is_same_kind k l && is_same_nullability n m) && nat_eq size other
  is_same_kind (map_kind ns ts) (map_kind ms us) = are_same_names ns ms && are_same ts us
  is_same_kind (struct_kind ns ts) (struct_kind ms us) = are_same_names ns ms && are_same ts us
  is_same_kind (union_kind is ns ts) (union_kind js ms us) =
      are_same_bytes is js && (are_same_names ns ms && are_same ts us)
  is_same_kind (extension_kind s k) (extension_kind r l) = are_same_bytes s r && is_same_kind k l
  is_same_kind k l = false

  pub are_same : TypeTrees → TypeTrees → Bool
  are_same no_types no_types = true
  are_same (more_types k n ts) (more_types l m us) =
      (is_same_kind k l && is_same_nullability n m) && are_same ts us
  are_same ts us = false

abbrev pub is_same_type : TypeTree → TypeTree → Bool
is_same_type t u = is_same_kind t.kind u.kind && is_same_nullability t.nullability u.nullability

abbrev pub are_same_types : List TypeTree → List TypeTree → Bool
are_same_types ts us = are_same (types_of ts) (types_of us)

abbrev pub are_same_fields : FieldTypes → FieldTypes → Bool
are_same_fields f g = are_same_names f.names g.names && are_same_types f.types g.types

abbrev pub are_same_variants : VariantTypes → VariantTypes → Bool
are_same_variants v w =
    are_same_bytes v.ids w.ids
    && (are_same_names v.names w.names && are_same_types v.types w.types)

abbrev pub is_same_extension : ExtensionType → ExtensionType → Bool
is_same_extension e f = are_same_bytes e.name f.name && is_same_kind e.storage.kind f.storage.kind
