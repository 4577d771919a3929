-- The variants of a union, one by one.
use Rattle.std.proofs.Common.{◌≡◌, ℕ, zero, suc, ◌+◌, ◌<◌, ◌≤◌, Bool, true, false, List, [], ◌∷◌, ◌++◌, length, map, get_or, take, None, Some, refl, sym, ap, ◌∙◌, subst, arith}
use Rattle.std.specs.Prelude.{◌==◌, ◌||◌, nat_eq, not, if◌then◌else◌}
use Rattle.std.specs.Cmp.{first_so, second_so}
use Rattle.std.specs.List.{list_any}
use Rattle.std.proofs.lemmas.Bool.{not-true}
use Rattle.std.proofs.lemmas.Bool.Decides.{nat_tests}
use Rattle.std.proofs.lemmas.List.{length-map, map_more, take_all, take_more}
use Rattle.vx_types.proofs.Carried.{carried_get, dtypes_all, shallow_get}
use Rattle.vx_types.specs.DType.{type_of}
use Rattle.vx_types.specs.FieldTypes.{VariantTypes}
use Rattle.vx_types.specs.RowValue.{RowValue}
use Rattle.vx_types.specs.TypeTree.{TypeTree, types_of}
use Rattle.vx_types.specs.Variants.{are_alike, are_distinct, variants_fault}
use Rattle.vx_types.specs.declared.dtype.DType.{DType}
use Rattle.vx_types.specs.declared.error.ColumnError.TheVariants.{BadTypeId, WrongLength}
use Rattle.vx_model.specs.Column.{Column}
use Rattle.vx_column.specs.Cell.{type_by_id, variant_type}
use Rattle.vx_column.proofs.VariantCounts.{many-variants}
use Rattle.vx_offsets.proofs.Cuts.{same}
use Rattle.vx_interleave.specs.Tags.{rows_under}
use Rattle.vx_interleave.specs.Unions.{AreVariants, union_of}
use Rattle.vx_interleave.proofs.MadeUnions.{variants_append, variants_none}

-- ---- the type of an id

first-no : (a b : Bool) → (a || b) ≡ false → a ≡ false
first-no true b h = h
first-no false b h = refl

second-no : (a b : Bool) → (a || b) ≡ false → b ≡ false
second-no true b h = cc
second-no false b h = h

other-id : (id : ℕ) (ids : List ℕ) (k : ℕ) → k < length ids → list_any (λ y. nat_eq y id) ids ≡ false → (id == get_or ids k 0) ≡ false
other-id id [] k l h = absurd (omega arith)
other-id id (i ∷ ids) zero l h =
    let other : nat_eq i id ≡ false = first-no (nat_eq i id) (list_any (λ y. nat_eq y id) ids) h in
    grind (arith, nat_tests)
other-id id (i ∷ ids) (suc k) l h = other-id id ids k (omega arith) (second-no (nat_eq i id) (list_any (λ y. nat_eq y id) ids) h)

-- the id in a place is that of the type in this place
type-by : (ids : List ℕ) (ds : List DType) (k : ℕ) (d : DType) → are_distinct ids ≡ true → k < length ds → length ids ≡ length ds → type_by_id ids (types_of (map type_of ds)) (get_or ids k 0) ≡ Some (type_of (get_or ds k d))
type-by ids [] k d apart l many = absurd (omega arith)
type-by [] (e ∷ ds) k d apart l many = absurd (omega arith)
type-by (id ∷ ids) (e ∷ ds) zero d apart l many = rw (same id) refl
type-by (id ∷ ids) (e ∷ ds) (suc k) d apart l many =
    let none : list_any (λ y. nat_eq y id) ids ≡ false = not-true (list_any (λ y. nat_eq y id) ids) (first_so (not (list_any (λ y. nat_eq y id) ids)) (are_distinct ids) apart) in
    let other : (id == get_or ids k 0) ≡ false = other-id id ids k (omega arith) none in
    rw other (type-by ids ds k d (second_so (not (list_any (λ y. nat_eq y id) ids)) (are_distinct ids) apart) (omega arith) (omega arith))

apart : (v : VariantTypes) → variants_fault v ≡ None → are_distinct v.ids ≡ true
apart v h = by (are_alike v) (are_distinct v.ids) h
  where
    by : (a b : Bool) → (if a then (if b then None else Some BadTypeId) else Some WrongLength) ≡ None → b ≡ true
    by true true h = refl
    by true false h = cc
    by false b h = cc

-- ---- one variant more

module _ (v : VariantTypes) (ids : List ℕ) (ds : List DType) (sound : variants_fault v ≡ None) (listed : ids ≡ v.ids) (types : map type_of ds ≡ v.types) where
  many : length ids ≡ length ds
  many = omega (arith, ap (length {A = ℕ}) listed, many-variants v sound, ap (length {A = TypeTree}) types, length-map ds type_of)

  pub variant_below : (k : ℕ) → k < length ds → k < length ids
  variant_below k h = omega (arith, many)

  pub variant_at : (k : ℕ) (d : DType) → k < length ds → variant_type (union_of v) (get_or ids k 0) ≡ Some (type_of (get_or ds k d))
  variant_at k d h =
      ap (λ ts. type_by_id v.ids (types_of ts) (get_or ids k 0)) (sym types)
      ∙ ap (λ is. type_by_id is (types_of (map type_of ds)) (get_or ids k 0)) (sym listed)
      ∙ type-by ids ds k d (ap are_distinct listed ∙ apart v sound) h many

  pub variants_more : (k : ℕ) (d : DType) (rows : List RowValue) (cs new : List Column) (c : Column) → k < length ds → AreVariants (take k ids) (map type_of (take k ds)) rows cs → c.dtype ≡ type_of (get_or ds k d) → c.rows ≡ rows_under (get_or ids k 0) rows → new ≡ cs ++ c ∷ [] → AreVariants (take (k + 1) ids) (map type_of (take (k + 1) ds)) rows new
  variants_more k d rows cs new c h all dtype is e =
      let inside : k < length ids = variant_below k h in
      subst (λ (l : List Column). AreVariants (take (k + 1) ids) (map type_of (take (k + 1) ds)) rows l) (sym e)
      (subst (λ (us : List TypeTree). AreVariants (take (k + 1) ids) us rows (cs ++ c ∷ [])) (sym (map_more type_of ds k d h))
      (subst (λ (is : List ℕ). AreVariants is (map type_of (take k ds) ++ type_of (get_or ds k d) ∷ []) rows (cs ++ c ∷ [])) (sym (take_more ids k 0 inside))
      (variants_append (take k ids) (map type_of (take k ds)) rows cs (get_or ids k 0) (type_of (get_or ds k d)) c all dtype is)))

  pub variants_all : (k : ℕ) (rows : List RowValue) (cs : List Column) → length ds ≤ k → AreVariants (take k ids) (map type_of (take k ds)) rows cs → AreVariants v.ids v.types rows cs
  variants_all k rows cs h all =
      subst (λ (ts : List TypeTree). AreVariants v.ids ts rows cs) (ap (map type_of) (take_all k ds h) ∙ types)
      (subst (λ (is : List ℕ). AreVariants is (map type_of (take k ds)) rows cs) (take_all k ids (omega (arith, many, h)) ∙ listed) all)

pub ruleset each_variant = (variants_none, dtypes_all, carried_get, shallow_get)
