-- The two types of a map's entries.
use Rattle.std.proofs.Common.{◌≡◌, ◌≢◌, false, List, [], ◌∷◌, map, length, get_or, refl, arith}
use Rattle.std.specs.Prelude.{not}
use Rattle.vx_types.specs.DType.{type_of}
use Rattle.vx_types.specs.Nullability.{is_nullable}
use Rattle.vx_types.specs.TypeTree.{are_entries, types_of}
use Rattle.vx_types.specs.declared.dtype.DType.{DType}

pub entries-two : (ts : List DType) (d : DType) → length ts ≡ 2 → are_entries (types_of (map type_of ts)) ≡ not (is_nullable (type_of (get_or ts 0 d)).nullability)
entries-two [] d h = absurd (omega arith)
entries-two (t ∷ []) d h = absurd (omega arith)
entries-two (t ∷ u ∷ []) d h = refl
entries-two (t ∷ u ∷ v ∷ ts) d h = absurd (omega arith)

pub entries-not : (ts : List DType) → (length ts ≢ 2) → are_entries (types_of (map type_of ts)) ≡ false
entries-not [] h = refl
entries-not (t ∷ []) h = refl
entries-not (t ∷ u ∷ []) h = absurd (h refl)
entries-not (t ∷ u ∷ v ∷ ts) h = refl

pub ruleset entries = (entries-two, entries-not)
