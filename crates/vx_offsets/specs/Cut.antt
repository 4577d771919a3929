-- Offsets that cut a list, and their type.
use Rattle.std.specs.Prelude.{ℕ, ◌==◌, ◌&&◌, nat_le, List, [], ◌∷◌, Bool, false}
use Rattle.vx_types.specs.TypeTree.{TypeKind, primitive_kind}
use Rattle.vx_types.specs.declared.ptype.PType.{PType}
use Rattle.vx_types.specs.declared.ptype.PType.TheVariants.{U64}

-- none is below the one before, and the last is n
abbrev pub is_cut : List ℕ → ℕ → Bool
is_cut [] n = false
is_cut (a ∷ []) n = a == n
is_cut (a ∷ b ∷ offsets) n = nat_le a b && is_cut (b ∷ offsets) n

-- the type of records of a primitive kind
abbrev pub type_of : TypeKind → PType
type_of (primitive_kind p) = p
type_of k = U64
