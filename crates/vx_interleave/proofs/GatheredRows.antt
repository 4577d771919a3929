-- Rows of types inside a type.
use Rattle.std.proofs.Common.{◌≡◌, ℕ, zero, suc, ◌+◌, ◌<◌, true, List, [], ◌∷◌, ◌++◌, length, map, get_or, take, Some, refl, sym, ap, ◌∙◌, subst, arith}
use Rattle.std.specs.Prelude.{slice_get}
use Rattle.std.proofs.lemmas.List.{length-take-le, length-map, map_more}
use Rattle.vx_types.proofs.Carried.{carried-storage, carried_get, dtypes_all, shallow_get, storage-nullability}
use Rattle.vx_types.specs.DType.{type_of}
use Rattle.vx_types.specs.RowValue.{RowValue}
use Rattle.vx_types.specs.TypeTree.{TypeTree, extension_type, is_carried, with_nullability}
use Rattle.vx_types.specs.declared.dtype.DType.{DType}
use Rattle.vx_types.specs.declared.nullability.Nullability.{Nullability}
use Rattle.vx_model.specs.Column.{Column}
use Rattle.vx_interleave.specs.Rows.{shown_as}
use Rattle.vx_interleave.specs.Structs.{AreFields, field_in}
use Rattle.vx_interleave.proofs.FieldRows.{fields_append, fields_none}
use Rattle.vx_types.proofs.Alike.{same-kind}

-- ---- extensions

pub ruleset extensions = (same-kind)

-- rows of the storage are those of the extension
pub shown-storage : (t : TypeTree) (name : List ℕ) (n : Nullability) (rows : List RowValue) → is_carried (record { kind = t.kind; nullability = n }) ≡ true → map (shown_as (with_nullability t n)) rows ≡ map (shown_as (extension_type name t n)) rows
shown-storage t name n rows h = ap (λ (m : Nullability). map (shown_as (record { kind = t.kind; nullability = m })) rows) (storage-nullability t n h)

pub ruleset inside = (carried-storage, storage-nullability, shown-storage)

-- ---- types one by one

pub type_at : (ds : List DType) (k : ℕ) (d : DType) → k < length ds → slice_get (map type_of ds) k ≡ Some (type_of (get_or ds k d))
type_at [] k d h = absurd (omega arith)
type_at (e ∷ ds) zero d h = refl
type_at (e ∷ ds) (suc k) d h = type_at ds k d (omega arith)

-- the columns of the first fields, and one more
pub fields_more : (ds : List DType) (k : ℕ) (d : DType) (rows : List RowValue) (cs : List Column) (c : Column) → k < length ds → AreFields 0 (map type_of (take k ds)) rows cs → c.dtype ≡ type_of (get_or ds k d) → c.rows ≡ map (field_in (type_of (get_or ds k d)) k) rows → AreFields 0 (map type_of (take (k + 1) ds)) rows (cs ++ c ∷ [])
fields_more ds k d rows cs c h all dtype is =
    let t = type_of (get_or ds k d) in
    let long : k ≡ 0 + length (map type_of (take k ds)) = omega (arith, length-map (take k ds) type_of, length-take-le k ds) in
    subst (λ (us : List TypeTree). AreFields 0 us rows (cs ++ c ∷ [])) (sym (map_more type_of ds k d h))
    (fields_append 0 (map type_of (take k ds)) rows cs t c all dtype (is ∙ ap (λ n. map (field_in t n) rows) long))

pub ruleset each_field = (fields_none, fields_more, type_at, dtypes_all, carried_get, shallow_get)
