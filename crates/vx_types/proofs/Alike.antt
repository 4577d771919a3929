-- Lists of names and of types that are alike.
use Rattle.std.proofs.Common.{◌≡◌, ◌≢◌, ℕ, suc, ◌+◌, ◌<◌, ◌≤◌, true, false, ◌&&◌, List, [], ◌∷◌, map, drop, length, get_or, refl, sym, ap, ◌∙◌, nat_eq, ap₂}
use Rattle.std.proofs.Math.Bool.{and-false}
use Rattle.std.proofs.lemmas.List.{at_drop_more, at_drop_all}
use Rattle.std.specs.Cmp.Derive.Mapped.{pointwise-map}
use Rattle.std.specs.Cmp.Lexicographic.{pointwise}
use Rattle.std.specs.Rc.{rc_str_bytes}
use Rattle.std.specs.declared.alloc.Global.{Global}
use Rattle.std.specs.declared.rc.RcStr.{RcStr}
use Rattle.vx_types.specs.DType.{type_of}
use Rattle.vx_types.specs.Fields.{names_of}
use Rattle.vx_types.specs.Same.{are_same_bytes, are_same_names, are_same_types, is_same_type, is_same_kind}
use Rattle.vx_types.specs.declared.dtype.DType.{DType}
use Rattle.vx_types.specs.SameLaws.{kind_decides}
use Rattle.vx_types.specs.TypeTree.{TypeKind, TypeTree, types_of}
use Rattle.vx_types.specs.declared.nullability.Nullability.{Nullability}

pub names_apart : (xs ys : List (RcStr Global))
    → pointwise (λ a b. pointwise nat_eq (rc_str_bytes a) (rc_str_bytes b)) xs ys
    ≡ are_same_names (names_of xs) (names_of ys)
names_apart xs ys = sym (pointwise-map rc_str_bytes are_same_bytes xs ys)

pub types_long : (xs ys : List DType) → (length xs ≢ length ys)
    → are_same_types (map type_of xs) (map type_of ys) ≡ false
types_long [] [] h = absurd (h refl)
types_long [] (y ∷ ys) h = refl
types_long (x ∷ xs) [] h = refl
types_long (x ∷ xs) (y ∷ ys) h =
    rw (types_long xs ys (λ e. h (ap suc e))) (and-false (is_same_type (type_of x) (type_of y)))

pub types_more : (xs ys : List DType) (i : ℕ) (d e : DType) → i < length xs → i < length ys
    → are_same_types (map type_of (drop i xs)) (map type_of (drop i ys))
    ≡ (is_same_type (type_of (get_or xs i d)) (type_of (get_or ys i e))
    && are_same_types (map type_of (drop (i + 1) xs)) (map type_of (drop (i + 1) ys)))
types_more xs ys i d e h k =
    at_drop_more (λ l. are_same_types (map type_of l) (map type_of (drop i ys))) xs i d h
    ∙ at_drop_more
    (λ l. are_same_types (map type_of (get_or xs i d ∷ drop (i + 1) xs)) (map type_of l))
    ys i e k

pub types_end : (xs ys : List DType) (i : ℕ) → length xs ≤ i → length ys ≤ i
    → are_same_types (map type_of (drop i xs)) (map type_of (drop i ys)) ≡ true
types_end xs ys i h k =
    at_drop_all (λ l. are_same_types (map type_of l) (map type_of (drop i ys))) xs i h
    ∙ at_drop_all (λ l. are_same_types [] (map type_of l)) ys i k

pub ruleset alike = (types_long, types_more, types_end)

-- a kind is the same as itself, by the test
pub same-kind : (k l : TypeKind) → k ≡ l → is_same_kind l k ≡ true
same-kind k l h = (kind_decides l k).1 (sym h)

-- lists of types that are alike are as long
pub length-types_of : (ts us : List TypeTree) → types_of ts ≡ types_of us → length ts ≡ length us
length-types_of [] [] h = refl
length-types_of [] (u ∷ us) h = cc
length-types_of (t ∷ ts) [] h = cc
length-types_of (t ∷ ts) (u ∷ us) h = let rest : types_of ts ≡ types_of us = cc in ap suc (length-types_of ts us rest)

-- and are one list
pub types_of-same : (ts us : List TypeTree) → types_of ts ≡ types_of us → ts ≡ us
types_of-same [] [] h = refl
types_of-same [] (u ∷ us) h = cc
types_of-same (t ∷ ts) [] h = cc
types_of-same (t ∷ ts) (u ∷ us) h =
    let kind : t.kind ≡ u.kind = cc in
    let nullability : t.nullability ≡ u.nullability = cc in
    let rest : types_of ts ≡ types_of us = cc in
    ap₂ (λ (x : TypeTree) xs. x ∷ xs)
    (ap₂ (λ (k : TypeKind) (n : Nullability). let x : TypeTree = record { kind = k; nullability = n } in x) kind nullability)
    (types_of-same ts us rest)
