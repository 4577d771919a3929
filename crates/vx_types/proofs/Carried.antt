-- Types that a column may have, one by one, and inside another.
use Rattle.std.proofs.Common.{◌≡◌, ℕ, zero, suc, ◌<◌, ◌≤◌, true, List, [], ◌∷◌, length, map, get_or, take, refl, arith}
use Rattle.std.specs.Cmp.{first_so, second_so}
use Rattle.std.proofs.lemmas.List.{take_all}
use Rattle.vx_types.specs.DType.{type_of}
use Rattle.vx_types.specs.TypeTree.{TypeKind, TypeTree, are_carried, is_carried, is_carried_as, null_kind, nullability_as, type_size, types_of, types_size, with_nullability}
use Rattle.vx_types.specs.declared.dtype.DType.{DType}
use Rattle.vx_types.specs.declared.nullability.Nullability.{Nullability}
use Rattle.vx_types.specs.declared.nullability.Nullability.TheVariants.{NonNullable, Nullable}

-- ---- one by one

pub dtypes_all : (ds : List DType) (k : ℕ) → length ds ≤ k → take k ds ≡ ds
dtypes_all ds k h = take_all k ds h

-- each type is one that a column may have
pub carried_get : (ds : List DType) (k : ℕ) (d : DType) → are_carried (types_of (map type_of ds)) ≡ true → k < length ds → is_carried (type_of (get_or ds k d)) ≡ true
carried_get [] k d h l = absurd (omega arith)
carried_get (e ∷ ds) zero d h l = first_so (is_carried (type_of e)) (are_carried (types_of (map type_of ds))) h
carried_get (e ∷ ds) (suc k) d h l = carried_get ds k d (second_so (is_carried (type_of e)) (are_carried (types_of (map type_of ds))) h) (omega arith)

-- and nests no deeper than all of them
pub shallow_get : (ds : List DType) (k : ℕ) (d : DType) → k < length ds → type_size (type_of (get_or ds k d)) ≤ types_size (types_of (map type_of ds))
shallow_get [] k d l = absurd (omega arith)
shallow_get (e ∷ ds) zero d l = omega arith
shallow_get (e ∷ ds) (suc k) d l = omega (arith, shallow_get ds k d (omega arith))

-- ---- inside another

pub carried-storage : (t : TypeTree) (n : Nullability) → is_carried (record { kind = t.kind; nullability = n }) ≡ true → is_carried (with_nullability t n) ≡ true
carried-storage t n h = by t.kind n h
  where
    by : (k : TypeKind) (n : Nullability) → is_carried_as k n ≡ true → is_carried_as k (nullability_as k n) ≡ true
    by null_kind n h = refl
    by k n h = h

pub storage-nullability : (t : TypeTree) (n : Nullability) → is_carried (record { kind = t.kind; nullability = n }) ≡ true → nullability_as t.kind n ≡ n
storage-nullability t n h = by t.kind n h
  where
    by : (k : TypeKind) (n : Nullability) → is_carried_as k n ≡ true → nullability_as k n ≡ n
    by null_kind Nullable h = refl
    by null_kind NonNullable h = cc
    by k n h = refl
