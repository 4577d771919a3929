-- What a `UnionVariants` stands for.
use Rattle.std.specs.Prelude.{ℕ, suc, ◌==◌, ◌&&◌, nat_eq, nat_lt, not, Bool, true, List, [], ◌∷◌, length, map, Option, Some, None, Vec, if◌then◌else◌}
use Rattle.std.specs.List.{list_any}
use Rattle.std.specs.Option.{option_map}
use Rattle.std.specs.declared.alloc.Global.{Global}
use Rattle.std.specs.declared.rc.RcStr.{RcStr}
use Rattle.vx_types.specs.DType.{type_of}
use Rattle.vx_types.specs.FieldTypes.{VariantTypes}
use Rattle.vx_types.specs.Fields.{names_of}
use Rattle.vx_types.specs.Same.{is_same_kind}
use Rattle.vx_types.specs.TypeTree.{TypeTree, primitive_kind}
use Rattle.vx_types.specs.declared.dtype.DType.{DType}
use Rattle.vx_types.specs.declared.error.ColumnError.{ColumnError}
use Rattle.vx_types.specs.declared.error.ColumnError.TheVariants.{WrongLength, BadTypeId}
use Rattle.vx_types.specs.declared.ptype.PType.TheVariants.{U8}

abbrev pub variants_of : Vec ℕ Global → Vec (RcStr Global) Global → Vec DType Global → VariantTypes
variants_of ids names types =
    record { ids = ids.items; names = names_of names.items; types = map type_of types.items }

-- no number occurs twice
abbrev pub are_distinct : List ℕ → Bool
are_distinct [] = true
are_distinct (x ∷ xs) = not (list_any (λ y. nat_eq y x) xs) && are_distinct xs

-- as many ids, names and types, and at least one
abbrev pub are_alike : VariantTypes → Bool
are_alike v =
    (length v.ids == length v.names)
    && ((length v.names == length v.types) && nat_lt 0 (length v.ids))

-- why they are no variants, the first that holds
abbrev pub variants_fault : VariantTypes → Option ColumnError
variants_fault v =
    if are_alike v then (if are_distinct v.ids then None else Some BadTypeId) else Some WrongLength

-- the place of the variant of this id among the variants
abbrev pub index_of : List ℕ → ℕ → Option ℕ
index_of [] id = None
index_of (v ∷ vs) id = if v == id then Some 0 else option_map suc (index_of vs id)

-- the ids are unsigned integers of one byte
abbrev pub is_id_type : TypeTree → Bool
is_id_type t = is_same_kind t.kind (primitive_kind U8)
