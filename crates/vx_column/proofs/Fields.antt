-- Columns that are of the fields' types, and as long.
use Rattle.std.proofs.Common.{◌≡◌, ◌≢◌, ℕ, suc, ◌+◌, ◌<◌, ◌≤◌, ◌&&◌, Bool, true, false, List, [], ◌∷◌, map, drop, take, length, get_or, None, Some, refl, sym, ap, ◌∙◌, arith}
use Rattle.std.specs.Prelude.{◌==◌, nat_lt, not}
use Rattle.std.proofs.Math.Bool.{and-false}
use Rattle.std.proofs.lemmas.Bool.Decides.{nat_tests}
use Rattle.std.proofs.lemmas.List.{at_drop_more, at_drop_all}
use Rattle.std.proofs.lemmas.List.Folds.{list_all_more, list_all_at}
use Rattle.std.specs.Cmp.{first_so, second_so}
use Rattle.vx_types.specs.DType.{type_of}
use Rattle.vx_types.specs.Nullability.{is_nullable}
use Rattle.vx_types.specs.Same.{are_same_types, is_same_type}
use Rattle.vx_types.specs.TypeTree.{TypeKind, TypeTree, are_carried, are_entries, is_carried, struct_kind, types_of, is_entry_type}
use Rattle.vx_types.specs.declared.dtype.DType.{DType}
use Rattle.vx_types.specs.declared.nullability.Nullability.{Nullability}
use Rattle.vx_types.specs.declared.nullability.Nullability.TheVariants.{NonNullable, Nullable}
use Rattle.vx_model.specs.Column.{Column}
use Rattle.vx_model.specs.Extension.{storage_kind}
use Rattle.vx_model.specs.Lists.{elements_type}
use Rattle.vx_model.specs.ListView.{ListViewParts}
use Rattle.vx_model.specs.Map.{map_fault, map_of}
use Rattle.vx_model.proofs.MapSteps.{entries-map}
use Rattle.vx_model.proofs.StructSteps.{same_trees}
use Rattle.vx_model.specs.Columns.{are_long, are_long_past, types_in}
use Rattle.vx_model.proofs.Columns.{columns_all}

-- ---- types, one by one

pub types_long : (cs : List Column) (ys : List DType) → (length cs ≢ length ys) → are_same_types (types_in cs) (map type_of ys) ≡ false
types_long [] [] h = absurd (h refl)
types_long [] (y ∷ ys) h = refl
types_long (c ∷ cs) [] h = refl
types_long (c ∷ cs) (y ∷ ys) h = rw (types_long cs ys (λ e. h (ap suc e))) (and-false (is_same_type c.dtype (type_of y)))

pub types_more : (cs : List Column) (ys : List DType) (i : ℕ) (d : Column) (e : DType) → i < length cs → i < length ys → are_same_types (types_in (drop i cs)) (map type_of (drop i ys)) ≡ (is_same_type (get_or cs i d).dtype (type_of (get_or ys i e)) && are_same_types (types_in (drop (i + 1) cs)) (map type_of (drop (i + 1) ys)))
types_more cs ys i d e h k =
    at_drop_more (λ (l : List Column). are_same_types (types_in l) (map type_of (drop i ys))) cs i d h
    ∙ at_drop_more (λ (l : List DType). are_same_types (types_in (get_or cs i d ∷ drop (i + 1) cs)) (map type_of l)) ys i e k

pub types_end : (cs : List Column) (ys : List DType) (i : ℕ) → length cs ≤ i → length ys ≤ i → are_same_types (types_in (drop i cs)) (map type_of (drop i ys)) ≡ true
types_end cs ys i h k =
    at_drop_all (λ (l : List Column). are_same_types (types_in l) (map type_of (drop i ys))) cs i h
    ∙ at_drop_all (λ (l : List DType). are_same_types [] (map type_of l)) ys i k

-- one more type that a column may have
pub carried_more : (cs : List Column) (i : ℕ) (d : Column) → i < length cs → are_carried (types_of (types_in (drop i cs))) ≡ (is_carried (get_or cs i d).dtype && are_carried (types_of (types_in (drop (i + 1) cs))))
carried_more cs i d h = at_drop_more (λ (l : List Column). are_carried (types_of (types_in l))) cs i d h

pub carried_end : (cs : List Column) (i : ℕ) → length cs ≤ i → are_carried (types_of (types_in (drop i cs))) ≡ true
carried_end cs i h = at_drop_all (λ (l : List Column). are_carried (types_of (types_in l))) cs i h

-- ---- lengths

pub long_more : (cs : List Column) (n k : ℕ) (d : Column) → k < length cs → are_long n (take (k + 1) cs) ≡ (are_long n (take k cs) && (length (get_or cs k d).rows == n))
long_more cs n k d h = list_all_more (λ (c : Column). length c.rows == n) cs k d h

pub long_not : (cs : List Column) (n k : ℕ) (d : Column) → k < length cs → (length (get_or cs k d).rows == n) ≡ false → are_long n cs ≡ false
long_not cs n k d h e = list_all_at (λ (c : Column). length c.rows == n) cs k d h e

pub ruleset alike = (types_long, types_more, types_end, carried_more, carried_end, columns_all, long_more, long_not)

-- ---- a row of each

pub long_past : (n i : ℕ) (cs : List Column) → are_long n cs ≡ true → i < n → are_long_past i cs ≡ true
long_past n i [] h l = refl
long_past n i (c ∷ cs) h l =
    let same : length c.rows ≡ n = (let t : (length c.rows == n) ≡ true = first_so (length c.rows == n) (are_long n cs) h in grind (arith, nat_tests)) in
    let here : nat_lt i (length c.rows) ≡ true = grind (arith, nat_tests) in
    rw (here, long_past n i cs (second_so (length c.rows == n) (are_long n cs) h) l) refl

pub ruleset past = (long_past)

-- ---- parts of a struct and of a map

-- types that are the columns' are ones that columns may have
pub carried_by : (cs : List Column) (ts : List TypeTree) → are_same_types (types_in cs) ts ≡ true → are_carried (types_of (types_in cs)) ≡ true → are_carried (types_of ts) ≡ true
carried_by cs ts h k = ap are_carried (sym (same_trees (types_of (types_in cs)) (types_of ts) h)) ∙ k

pub ruleset made = (carried_by)

map_elements : (k : TypeKind) (n : Nullability) → is_entry_type (record { kind = k; nullability = n }) ≡ true → elements_type (storage_kind (map_of k)) ≡ Some (record { kind = k; nullability = n })
map_elements (struct_kind names ts) NonNullable h = refl
map_elements (struct_kind names ts) Nullable h = let no : false ≡ true = sym (by (are_entries ts)) ∙ h in cc
  where
    by : (a : Bool) → (a && false) ≡ false
    by true = refl
    by false = refl
map_elements k n h = cc

-- a map's entries are of the type that its type says
pub elements-map : (p : ListViewParts) → map_fault p ≡ None → elements_type (storage_kind (map_of p.elements.dtype.kind)) ≡ Some p.elements.dtype
elements-map p h = map_elements p.elements.dtype.kind p.elements.dtype.nullability (entries-map p h)

pub ruleset typed = (elements-map)
