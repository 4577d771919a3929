-- What contracts see of the structs that types are made of.
use Rattle.std.specs.Prelude.{ℕ, List, refl}
use Rattle.std.specs.Coded.{Coded, code_by, coded×, coded_ℕ, coded_list}
use Rattle.vx_types.specs.TypeTree.{TypeTree}
use Rattle.vx_types.specs.TypeTreeCode.{coded_type}

-- of a `StructFields`
pub record FieldTypes : Type 0 where
  pub names : List (List ℕ)
  pub types : List TypeTree

-- of a `UnionVariants`
pub record VariantTypes : Type 0 where
  pub ids : List ℕ
  pub names : List (List ℕ)
  pub types : List TypeTree

-- of an `ExtDType`: the storage type has no nullability of its own
pub record ExtensionType : Type 0 where
  pub name : List ℕ
  pub storage : TypeTree

abbrev coded_names : Coded (List (List ℕ))
coded_names = coded_list (coded_list coded_ℕ)

abbrev pub coded_fields : Coded FieldTypes
coded_fields =
    code_by (List (List ℕ) × List TypeTree) (coded× coded_names (coded_list coded_type))
    (λ f. (f.names, f.types)) (λ p. record { names = p.0; types = p.1 }) (λ _. refl)

abbrev pub coded_variants : Coded VariantTypes
coded_variants =
    code_by (List ℕ × (List (List ℕ) × List TypeTree))
    (coded× (coded_list coded_ℕ) (coded× coded_names (coded_list coded_type)))
    (λ v. (v.ids, (v.names, v.types)))
    (λ p. record { ids = p.0; names = p.1.0; types = p.1.1 }) (λ _. refl)

abbrev pub coded_extension : Coded ExtensionType
coded_extension =
    code_by (List ℕ × TypeTree) (coded× (coded_list coded_ℕ) coded_type)
    (λ e. (e.name, e.storage)) (λ p. record { name = p.0; storage = p.1 }) (λ _. refl)
