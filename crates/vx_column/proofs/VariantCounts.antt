-- How many variants the types of a union have.
use Rattle.std.proofs.Common.{◌≡◌, ◌<◌, Bool, true, false, length, None, Some, refl, arith}
use Rattle.std.specs.Prelude.{◌==◌, nat_lt, if◌then◌else◌}
use Rattle.std.specs.Cmp.{first_so, second_so}
use Rattle.std.proofs.lemmas.Bool.Decides.{nat_tests}
use Rattle.vx_types.specs.FieldTypes.{VariantTypes}
use Rattle.vx_types.specs.Variants.{are_alike, are_distinct, variants_fault}
use Rattle.vx_types.specs.declared.error.ColumnError.TheVariants.{BadTypeId, WrongLength}

some-variants : (v : VariantTypes) → variants_fault v ≡ None → (0 < length v.ids) × (length v.ids ≡ length v.types)
some-variants v h = by (are_alike v) (are_distinct v.ids) refl h
  where
    parts : are_alike v ≡ true → (0 < length v.ids) × (length v.ids ≡ length v.types)
    parts e =
        let names : (length v.ids == length v.names) ≡ true = first_so (length v.ids == length v.names) _ e in
        let rest = second_so (length v.ids == length v.names) _ e in
        let types : (length v.names == length v.types) ≡ true = first_so (length v.names == length v.types) _ rest in
        let some : nat_lt 0 (length v.ids) ≡ true = second_so (length v.names == length v.types) _ rest in
        (grind (arith, nat_tests), grind (arith, nat_tests))

    by : (a b : Bool) → are_alike v ≡ a → (if a then (if b then None else Some BadTypeId) else Some WrongLength) ≡ None → (0 < length v.ids) × (length v.ids ≡ length v.types)
    by true true e h = parts e
    by true false e h = cc
    by false b e h = cc

pub many-variants : (v : VariantTypes) → variants_fault v ≡ None → length v.ids ≡ length v.types
many-variants v h = (some-variants v h).1

pub first-variant : (v : VariantTypes) → variants_fault v ≡ None → 0 < length v.ids
first-variant v h = (some-variants v h).0
