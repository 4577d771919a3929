-- Keys are of flat types, and no flat type is one of lists or unions.
use Rattle.std.proofs.Common.{◌≡◌, ℕ, zero, suc, Bool, true, false, List, [], ◌∷◌, map, length, None, Some, refl, sym, ◌∙◌, arith}
use Rattle.std.specs.List.{All}
use Rattle.vx_types.specs.TypeTree.{TypeKind, TypeTree, null_kind, bool_kind, primitive_kind, decimal_kind, is_flat, is_flat_kind}
use Rattle.vx_model.specs.Column.{Column}
use Rattle.vx_column.specs.Cell.{variant_type}
use Rattle.vx_model.specs.Lists.{elements_type}
use Rattle.vx_join.specs.Cells.{AreFlat}
use Rattle.vx_join.specs.Join.{are_key_kinds, are_key_types}
use Rattle.vx_join.specs.Numbers.{AreAlike, types_of}

by_kind : (k : TypeKind) → is_flat_kind k ≡ true → elements_type k ≡ None
by_kind null_kind h = refl
by_kind bool_kind h = refl
by_kind (primitive_kind p) h = refl
by_kind (decimal_kind p s w) h = refl
by_kind k h = cc

pub no_elements : (t e : TypeTree) → is_flat t ≡ true → elements_type t.kind ≡ Some e → true ≡ false
no_elements t e h k = let no : Some e ≡ None = sym k ∙ by_kind t.kind h in cc

variants_by_kind : (k : TypeKind) (id : ℕ) → is_flat_kind k ≡ true → variant_type k id ≡ None
variants_by_kind null_kind id h = refl
variants_by_kind bool_kind id h = refl
variants_by_kind (primitive_kind p) id h = refl
variants_by_kind (decimal_kind p s w) id h = refl
variants_by_kind k id h = cc

pub no_variants : (t e : TypeTree) (id : ℕ) → is_flat t ≡ true → variant_type t.kind id ≡ Some e → true ≡ false
no_variants t e id h k = let no : Some e ≡ None = sym k ∙ variants_by_kind t.kind id h in cc

pub ruleset flat_cells = (no_elements, no_variants)

first_flat : (k l : TypeKind) → are_key_kinds k l ≡ true → is_flat_kind k ≡ true
first_flat null_kind l h = refl
first_flat bool_kind l h = refl
first_flat (primitive_kind p) l h = refl
first_flat (decimal_kind p s w) l h = refl
first_flat k l h = cc

second_flat : (k l : TypeKind) → are_key_kinds k l ≡ true → is_flat_kind l ≡ true
second_flat null_kind null_kind h = refl
second_flat bool_kind bool_kind h = refl
second_flat (primitive_kind p) (primitive_kind q) h = refl
second_flat (decimal_kind p s w) (decimal_kind q t v) h = refl
second_flat null_kind l h = cc
second_flat bool_kind l h = cc
second_flat (primitive_kind p) l h = cc
second_flat (decimal_kind p s w) l h = cc
second_flat k l h = cc

pub flat_left : (ls rs : List Column) → AreAlike (types_of ls) (types_of rs) → AreFlat ls
flat_left [] rs h k d l = absurd (omega arith)
flat_left (a ∷ ls) [] h k d l = absurd h
flat_left (a ∷ ls) (b ∷ rs) h zero d l = first_flat a.dtype.kind b.dtype.kind h.0
flat_left (a ∷ ls) (b ∷ rs) h (suc k) d l = flat_left ls rs h.1 k d (omega arith)

pub flat_right : (ls rs : List Column) → AreAlike (types_of ls) (types_of rs) → AreFlat rs
flat_right ls [] h k d l = absurd (omega arith)
flat_right [] (b ∷ rs) h k d l = absurd h
flat_right (a ∷ ls) (b ∷ rs) h zero d l = second_flat a.dtype.kind b.dtype.kind h.0
flat_right (a ∷ ls) (b ∷ rs) h (suc k) d l = flat_right ls rs h.1 k d (omega arith)
