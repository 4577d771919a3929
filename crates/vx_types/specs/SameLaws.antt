-- The test of two types tells whether they are one.
use Rattle.std.proofs.Common.{◌≡◌, ℕ, ℤ, true, ◌&&◌, List, refl, sym, ap, ◌∙◌, subst, rules, nat_eq}
use Rattle.std.specs.Bool.{Decides, one_answer}
use Rattle.std.specs.Cmp.{first_so, second_so, signed_Decides, IsPartialEquivalence}
use Rattle.std.specs.Cmp.Lexicographic.{pointwise_decides, bytes_decides}
use Rattle.std.specs.Ordering.{int_eq}
use Rattle.vx_types.specs.PType.{is_same_ptype}
use Rattle.vx_types.specs.Same.{is_same_nullability, are_same_bytes, are_same_names, is_same_kind, are_same, is_same_type}
use Rattle.vx_types.specs.TypeTree.{TypeKind, TypeTree, TypeTrees, null_kind, bool_kind, primitive_kind, decimal_kind, utf8_kind, binary_kind, list_kind, fixed_kind, map_kind, struct_kind, union_kind, extension_kind, no_types, more_types}
use Rattle.vx_types.specs.declared.ptype.PType.{PType}
use Rattle.vx_types.specs.declared.ptype.PType.TheVariants.{U8, U16, U32, U64, I8, I16, I32, I64, F16, F32, F64}
use Rattle.vx_types.specs.declared.nullability.Nullability.{Nullability}
use Rattle.vx_types.specs.declared.nullability.Nullability.TheVariants.{NonNullable, Nullable}

nullability_one : (a b : Nullability) → is_same_nullability a b ≡ true → a ≡ b
nullability_one NonNullable NonNullable h = refl
nullability_one Nullable Nullable h = refl
nullability_one a b h = cc

nullability_self : (a : Nullability) → is_same_nullability a a ≡ true
nullability_self NonNullable = refl
nullability_self Nullable = refl

ptype_one : (a b : PType) → is_same_ptype a b ≡ true → a ≡ b
ptype_one U8 U8 h = refl
ptype_one U16 U16 h = refl
ptype_one U32 U32 h = refl
ptype_one U64 U64 h = refl
ptype_one I8 I8 h = refl
ptype_one I16 I16 h = refl
ptype_one I32 I32 h = refl
ptype_one I64 I64 h = refl
ptype_one F16 F16 h = refl
ptype_one F32 F32 h = refl
ptype_one F64 F64 h = refl
ptype_one a b h = cc

ptype_self : (a : PType) → is_same_ptype a a ≡ true
ptype_self U8 = refl
ptype_self p = refl

bytes_one : (a b : List ℕ) → are_same_bytes a b ≡ true → a ≡ b
bytes_one a b h = (bytes_decides a b).0 h

bytes_self : (a : List ℕ) → are_same_bytes a a ≡ true
bytes_self a = (bytes_decides a a).1 refl

names_one : (a b : List (List ℕ)) → are_same_names a b ≡ true → a ≡ b
names_one a b h = (pointwise_decides bytes_decides a b).0 h

names_self : (a : List (List ℕ)) → are_same_names a a ≡ true
names_self a = (pointwise_decides bytes_decides a a).1 refl

nat_one : (a b : ℕ) → nat_eq a b ≡ true → a ≡ b
nat_one a b h = search rules

nat_self : (a : ℕ) → nat_eq a a ≡ true
nat_self a = search rules

int_one : (a b : ℤ) → int_eq a b ≡ true → a ≡ b
int_one a b h = (signed_Decides a b).0 h

int_self : (a : ℤ) → int_eq a a ≡ true
int_self a = (signed_Decides a a).1 refl

mutual
  kind_one : (a b : TypeKind) → is_same_kind a b ≡ true → a ≡ b
  kind_one null_kind null_kind h = refl
  kind_one bool_kind bool_kind h = refl
  kind_one (primitive_kind p) (primitive_kind q) h = ap primitive_kind (ptype_one p q h)
  kind_one (decimal_kind p s w) (decimal_kind q t v) h =
      let g : (int_eq s t && nat_eq w v) ≡ true = second_so (nat_eq p q) _ h in
      λ i. decimal_kind (nat_one p q (first_so _ (int_eq s t && nat_eq w v) h) i)
      (int_one s t (first_so _ (nat_eq w v) g) i) (nat_one w v (second_so (int_eq s t) _ g) i)
  kind_one utf8_kind utf8_kind h = refl
  kind_one binary_kind binary_kind h = refl
  kind_one (list_kind k n) (list_kind l m) h =
      λ i. list_kind (kind_one k l (first_so _ (is_same_nullability n m) h) i)
      (nullability_one n m (second_so (is_same_kind k l) _ h) i)
  kind_one (fixed_kind k n size) (fixed_kind l m other) h =
      let g : (is_same_kind k l && is_same_nullability n m) ≡ true =
      first_so _ (nat_eq size other) h in
      λ i. fixed_kind (kind_one k l (first_so _ (is_same_nullability n m) g) i)
      (nullability_one n m (second_so (is_same_kind k l) _ g) i)
      (nat_one size other (second_so (is_same_kind k l && is_same_nullability n m) _ h) i)
  kind_one (map_kind ns ts) (map_kind ms us) h =
      λ i. map_kind (names_one ns ms (first_so _ (are_same ts us) h) i)
      (types_one ts us (second_so (are_same_names ns ms) _ h) i)
  kind_one (struct_kind ns ts) (struct_kind ms us) h =
      λ i. struct_kind (names_one ns ms (first_so _ (are_same ts us) h) i)
      (types_one ts us (second_so (are_same_names ns ms) _ h) i)
  kind_one (union_kind is ns ts) (union_kind js ms us) h =
      let g : (are_same_names ns ms && are_same ts us) ≡ true =
      second_so (are_same_bytes is js) _ h in
      λ i. union_kind (bytes_one is js (first_so _ (are_same_names ns ms && are_same ts us) h) i)
      (names_one ns ms (first_so _ (are_same ts us) g) i)
      (types_one ts us (second_so (are_same_names ns ms) _ g) i)
  kind_one (extension_kind s k) (extension_kind r l) h =
      λ i. extension_kind (bytes_one s r (first_so _ (is_same_kind k l) h) i)
      (kind_one k l (second_so (are_same_bytes s r) _ h) i)
  kind_one a b h = cc

  types_one : (ts us : TypeTrees) → are_same ts us ≡ true → ts ≡ us
  types_one no_types no_types h = refl
  types_one (more_types k n ts) (more_types l m us) h =
      let g : (is_same_kind k l && is_same_nullability n m) ≡ true =
      first_so _ (are_same ts us) h in
      λ i. more_types (kind_one k l (first_so _ (is_same_nullability n m) g) i)
      (nullability_one n m (second_so (is_same_kind k l) _ g) i)
      (types_one ts us (second_so (is_same_kind k l && is_same_nullability n m) _ h) i)
  types_one a b h = cc

mutual
  kind_self : (a : TypeKind) → is_same_kind a a ≡ true
  kind_self null_kind = refl
  kind_self bool_kind = refl
  kind_self (primitive_kind p) = ptype_self p
  kind_self (decimal_kind p s w) = λ i. nat_self p i && (int_self s i && nat_self w i)
  kind_self utf8_kind = refl
  kind_self binary_kind = refl
  kind_self (list_kind k n) = λ i. kind_self k i && nullability_self n i
  kind_self (fixed_kind k n size) = λ i. (kind_self k i && nullability_self n i) && nat_self size i
  kind_self (map_kind ns ts) = λ i. names_self ns i && types_self ts i
  kind_self (struct_kind ns ts) = λ i. names_self ns i && types_self ts i
  kind_self (union_kind is ns ts) = λ i. bytes_self is i && (names_self ns i && types_self ts i)
  kind_self (extension_kind s k) = λ i. bytes_self s i && kind_self k i

  types_self : (ts : TypeTrees) → are_same ts ts ≡ true
  types_self no_types = refl
  types_self (more_types k n ts) =
      λ i. (kind_self k i && nullability_self n i) && types_self ts i

type_one : (a b : TypeTree) → is_same_type a b ≡ true → a ≡ b
type_one a b h =
    λ i. record {
      kind =
          kind_one a.kind b.kind
          (first_so _ (is_same_nullability a.nullability b.nullability) h) i;
      nullability =
          nullability_one a.nullability b.nullability
          (second_so (is_same_kind a.kind b.kind) _ h) i;
    }

type_self : (a : TypeTree) → is_same_type a a ≡ true
type_self a = λ i. kind_self a.kind i && nullability_self a.nullability i

pub type_decides : (a b : TypeTree) → Decides (is_same_type a b) (a ≡ b)
type_decides a b = (type_one a b, λ e. subst (λ x. is_same_type a x ≡ true) e (type_self a))

pub type_per : IsPartialEquivalence is_same_type
type_per =
    record {
      symm = λ a b. one_answer (is_same_type a b) (is_same_type b a) (type_decides a b)
          (λ e. sym ((type_decides b a).0 e), λ e. (type_decides b a).1 (sym e));
      trans = λ a b c h g. (type_decides a c).1 (type_one a b h ∙ type_one b c g);
    }

pub kind_decides : (a b : TypeKind) → Decides (is_same_kind a b) (a ≡ b)
kind_decides a b = (kind_one a b, λ e. subst (λ x. is_same_kind a x ≡ true) e (kind_self a))
