-- The outer nullability of a type.
use Rattle.std.proofs.Common.{◌≡◌, true, refl, sym, ap, ◌∙◌}
use Rattle.vx_types.specs.Nullability.{is_nullable, either_nullable}
use Rattle.vx_types.specs.TypeTree.{TypeKind, TypeTree, null_kind, also_nullable, nullability_as, with_nullability}
use Rattle.vx_types.specs.declared.nullability.Nullability.{Nullability}
use Rattle.vx_types.specs.declared.nullability.Nullability.TheVariants.{NonNullable, Nullable}

pub either_nullable-none : (m : Nullability) → either_nullable m NonNullable ≡ m
either_nullable-none NonNullable = refl
either_nullable-none Nullable = refl

pub either_nullable-nullable : (m : Nullability) → either_nullable m Nullable ≡ Nullable
either_nullable-nullable NonNullable = refl
either_nullable-nullable Nullable = refl

pub either_nullable-assoc : (k m n : Nullability) → either_nullable (either_nullable k m) n ≡ either_nullable k (either_nullable m n)
either_nullable-assoc NonNullable m n = refl
either_nullable-assoc Nullable m n = refl

either_nullable-own : (m n : Nullability) → is_nullable m ≡ true → either_nullable m n ≡ m
either_nullable-own NonNullable n h = cc
either_nullable-own Nullable n h = refl

-- the type of this kind
module _ (k : TypeKind) where
  same_kind : (m n : Nullability) → m ≡ n → let t : TypeTree = record { kind = k; nullability = m } in let u : TypeTree = record { kind = k; nullability = n } in t ≡ u
  same_kind m n h = ap (λ (i : Nullability). let t : TypeTree = record { kind = k; nullability = i } in t) h

-- a type that need not be nullable stays
pub also_nullable-none : (t : TypeTree) → also_nullable t NonNullable ≡ t
also_nullable-none t = same_kind t.kind _ _ (either_nullable-none t.nullability)

-- and so does a nullable one
pub also_nullable-own : (t : TypeTree) (n : Nullability) → is_nullable t.nullability ≡ true → also_nullable t n ≡ t
also_nullable-own t n h = same_kind t.kind _ _ (either_nullable-own t.nullability n h)

pub also_nullable-either : (t : TypeTree) (m n : Nullability) → also_nullable (also_nullable t m) n ≡ also_nullable t (either_nullable m n)
also_nullable-either t m n = same_kind t.kind _ _ (either_nullable-assoc t.nullability m n)

-- a dictionary's type, where its codes become nullable
pub also_nullable-codes : (values codes : TypeTree) (n : Nullability) → also_nullable values (also_nullable codes n).nullability ≡ also_nullable (also_nullable values codes.nullability) n
also_nullable-codes values codes n = sym (also_nullable-either values codes.nullability n)

-- ---- another nullability in its place

nullability_as-nullable : (k : TypeKind) → nullability_as k Nullable ≡ Nullable
nullability_as-nullable null_kind = refl
nullability_as-nullable k = refl

pub also_nullable-nullable : (t : TypeTree) → also_nullable t Nullable ≡ with_nullability t Nullable
also_nullable-nullable t = same_kind t.kind _ _ (either_nullable-nullable t.nullability ∙ sym (nullability_as-nullable t.kind))

-- a nullable type with its nullability is the type
pub with_nullability-nullable : (t : TypeTree) → is_nullable t.nullability ≡ true → with_nullability t Nullable ≡ t
with_nullability-nullable t h = sym (also_nullable-nullable t) ∙ also_nullable-own t Nullable h

-- of two of which the first is nullable
pub nullable-either : (m n : Nullability) → is_nullable m ≡ true → is_nullable (either_nullable m n) ≡ true
nullable-either NonNullable n h = cc
nullable-either Nullable n h = refl
