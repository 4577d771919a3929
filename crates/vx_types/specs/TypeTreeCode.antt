-- The code of a type, by which proofs tell types apart: a kind is a number, the types inside, and
-- the rest.
use Rattle.std.specs.Prelude.{◌≡◌, ℕ, zero, suc, refl}
use Rattle.std.specs.Coded.{code_by, coded×}
use base.Stored.{Gv, gnil, gnum, gcons, num, Coded}
use Rattle.vx_types.specs.Code.{head, tail, bytes_code, bytes_back, bytes_back_code, names_code, names_back, names_back_code, int_code, int_back, int_back_code, coded_back}
use Rattle.vx_types.specs.NullabilityCode.{coded_nullability, nullability_code, nullability_back, nullability_back_code}
use Rattle.vx_types.specs.PTypeCode.{ptype_code, ptype_back, ptype_back_code}
use Rattle.vx_types.specs.TypeTree.{TypeKind, TypeTree, TypeTrees, null_kind, bool_kind, primitive_kind, decimal_kind, utf8_kind, binary_kind, list_kind, fixed_kind, map_kind, struct_kind, union_kind, extension_kind, no_types, more_types}
use Rattle.vx_types.specs.declared.nullability.Nullability.{Nullability}
use Rattle.vx_types.specs.declared.nullability.Nullability.TheVariants.{NonNullable}

abbrev node : ℕ → Gv → Gv → Gv
node k inside rest = gcons (gnum k) (gcons inside rest)

abbrev alone : Gv → Gv → Gv
alone kind nullability = gcons (gcons kind nullability) gnil

abbrev mutual
  pub code : TypeKind → Gv
  code null_kind = node 0 gnil gnil
  code bool_kind = node 1 gnil gnil
  code (primitive_kind p) = node 2 gnil (ptype_code p)
  code (decimal_kind p s w) = node 3 gnil (gcons (gcons (gnum p) (int_code s)) (gnum w))
  code utf8_kind = node 4 gnil gnil
  code binary_kind = node 5 gnil gnil
  code (list_kind k n) = node 6 (alone (code k) (nullability_code n)) gnil
  code (fixed_kind k n size) = node 7 (alone (code k) (nullability_code n)) (gnum size)
  code (map_kind ns ts) = node 8 (codes ts) (names_code ns)
  code (struct_kind ns ts) = node 9 (codes ts) (names_code ns)
  code (union_kind is ns ts) = node 10 (codes ts) (gcons (bytes_code is) (names_code ns))
  code (extension_kind s k) = node 11 (alone (code k) gnil) (bytes_code s)

  pub codes : TypeTrees → Gv
  codes no_types = gnil
  codes (more_types k n ts) = gcons (gcons (code k) (nullability_code n)) (codes ts)

-- what a code stands for: as a kind, as a list of types, the list that its first part is, and the
-- kind that its first part is
pub record Back : Type 0 where
  pub one : TypeKind
  pub all : TypeTrees
  pub first : TypeTrees
  pub lead : TypeKind

abbrev first_kind : TypeTrees → TypeKind
first_kind no_types = null_kind
first_kind (more_types k n ts) = k

abbrev first_nullability : TypeTrees → Nullability
first_nullability no_types = NonNullable
first_nullability (more_types k n ts) = n

abbrev kind_numbered : ℕ → TypeTrees → Gv → TypeKind
kind_numbered zero ts r = null_kind
kind_numbered (suc zero) ts r = bool_kind
kind_numbered (suc (suc zero)) ts r = primitive_kind (ptype_back r)
kind_numbered (suc (suc (suc zero))) ts r =
    decimal_kind (num (head (head r))) (int_back (tail (head r))) (num (tail r))
kind_numbered (suc (suc (suc (suc zero)))) ts r = utf8_kind
kind_numbered (suc (suc (suc (suc (suc zero))))) ts r = binary_kind
kind_numbered (suc (suc (suc (suc (suc (suc zero)))))) ts r =
    list_kind (first_kind ts) (first_nullability ts)
kind_numbered (suc (suc (suc (suc (suc (suc (suc zero))))))) ts r =
    fixed_kind (first_kind ts) (first_nullability ts) (num r)
kind_numbered (suc (suc (suc (suc (suc (suc (suc (suc zero)))))))) ts r =
    map_kind (names_back r) ts
kind_numbered (suc (suc (suc (suc (suc (suc (suc (suc (suc zero))))))))) ts r =
    struct_kind (names_back r) ts
kind_numbered (suc (suc (suc (suc (suc (suc (suc (suc (suc (suc zero)))))))))) ts r =
    union_kind (bytes_back (head r)) (names_back (tail r)) ts
kind_numbered (suc (suc (suc (suc (suc (suc (suc (suc (suc (suc (suc n))))))))))) ts r =
    extension_kind (bytes_back r) (first_kind ts)

abbrev empty_back : Back
empty_back = record { one = null_kind; all = no_types; first = no_types; lead = null_kind }

abbrev pub back : Gv → Back
back gnil = empty_back
back (gnum n) = empty_back
back (gcons a b) =
    record {
      one = kind_numbered (num a) (back b).first (tail b);
      all = more_types (back a).lead (nullability_back (tail a)) (back b).all;
      first = (back a).all;
      lead = (back a).one;
    }

mutual
  pub back_code : (k : TypeKind) → (back (code k)).one ≡ k
  back_code null_kind = refl
  back_code bool_kind = refl
  back_code (primitive_kind p) = λ i. primitive_kind (ptype_back_code p i)
  back_code (decimal_kind p s w) = λ i. decimal_kind p (int_back_code s i) w
  back_code utf8_kind = refl
  back_code binary_kind = refl
  back_code (list_kind k n) = λ i. list_kind (back_code k i) (nullability_back_code n i)
  back_code (fixed_kind k n size) =
      λ i. fixed_kind (back_code k i) (nullability_back_code n i) size
  back_code (map_kind ns ts) = λ i. map_kind (names_back_code ns i) (back_codes ts i)
  back_code (struct_kind ns ts) = λ i. struct_kind (names_back_code ns i) (back_codes ts i)
  back_code (union_kind is ns ts) =
      λ i. union_kind (bytes_back_code is i) (names_back_code ns i) (back_codes ts i)
  back_code (extension_kind s k) = λ i. extension_kind (bytes_back_code s i) (back_code k i)

  pub back_codes : (ts : TypeTrees) → (back (codes ts)).all ≡ ts
  back_codes no_types = refl
  back_codes (more_types k n ts) =
      λ i. more_types (back_code k i) (nullability_back_code n i) (back_codes ts i)

abbrev pub coded_kind : Coded TypeKind
coded_kind = coded_back code (λ g. (back g).one) back_code

abbrev pub coded_type : Coded TypeTree
coded_type =
    code_by (TypeKind × Nullability) (coded× coded_kind coded_nullability)
    (λ t. (t.kind, t.nullability)) (λ f. record { kind = f.0; nullability = f.1 }) (λ _. refl)
