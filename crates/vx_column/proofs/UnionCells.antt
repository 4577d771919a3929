-- What the parts of a union say of one row, as a walk to it reads them.
use Rattle.std.proofs.Common.{◌≡◌, ℕ, ◌<◌, List, length, get_or, Option, None, Some, sym, ap, ◌∙◌, arith}
use Rattle.std.specs.Prelude.{slice_get}
use Rattle.std.proofs.lemmas.Option.{get_or_from_slice_get}
use Rattle.vx_types.specs.FieldTypes.{VariantTypes}
use Rattle.vx_types.specs.Variants.{variants_fault, index_of}
use Rattle.vx_positions.specs.Positions.{positions_of}
use Rattle.vx_model.specs.Column.{Column}
use Rattle.vx_model.specs.Numbers.{numbers_of}
use Rattle.vx_model.specs.Union.{UnionParts, tags_of, union_column, union_fault}
use Rattle.vx_model.proofs.UnionSteps.{rows-union}
use Rattle.vx_column.proofs.Tags.{many-union}

-- the tag of a row, by a column that is the ids
pub tag-by : {ids : Column} {o : Option ℕ} (p : UnionParts) (i : ℕ) (t : Option ℕ) → ids ≡ p.ids → o ≡ get_or (positions_of (numbers_of ids)) i None → o ≡ t → get_or (tags_of p) i None ≡ t
tag-by p i t same told is =
    ap (λ (c : Column). get_or (positions_of (numbers_of c)) i None) (sym same) ∙ sym told ∙ is

-- the place of an id, by types that are the variants'
pub place-by : {types : VariantTypes} {ids : List ℕ} {o : Option ℕ} (p : UnionParts) (id : ℕ) (k : Option ℕ) → types ≡ p.variants → ids ≡ types.ids → o ≡ index_of ids id → o ≡ k → index_of p.variants.ids id ≡ k
place-by p id k same listed told is =
    ap (λ l. index_of l id) (sym (listed ∙ ap (λ (v : VariantTypes). v.ids) same)) ∙ sym told ∙ is

pub many-by : {types : VariantTypes} (p : UnionParts) → union_fault p ≡ None → types ≡ p.variants → variants_fault types ≡ None → length p.variants.ids ≡ length p.columns
many-by p valid same sound = many-union p valid (ap variants_fault (sym same) ∙ sound)

-- row i has this id, whose variant is the one in place k, and that has the column x
pub record IsRowOf (p : UnionParts) (i id k : ℕ) (x : Column) : Type 0 where
  pub valid : union_fault p ≡ None
  pub row : i < length p.ids.rows
  pub many : length p.variants.ids ≡ length p.columns
  pub tag : get_or (tags_of p) i None ≡ Some id
  pub is : index_of p.variants.ids id ≡ Some k
  pub at : get_or p.columns k x ≡ x

pub row-by : {ids : Column} {types : VariantTypes} {listed : List ℕ} {columns : List Column} {o j : Option ℕ} (p : UnionParts) (i id k : ℕ) (x : Column) → union_fault p ≡ None → i < length (union_column p).rows → ids ≡ p.ids → o ≡ get_or (positions_of (numbers_of ids)) i None → o ≡ Some id → types ≡ p.variants → variants_fault types ≡ None → listed ≡ types.ids → j ≡ index_of listed id → j ≡ Some k → columns ≡ p.columns → slice_get columns k ≡ Some x → IsRowOf p i id k x
row-by p i id k x valid row same_ids told tag same sound ids_are found is same_columns column =
    record {
      valid = valid;
      row = omega (arith, row, rows-union p valid);
      many = many-by p valid same sound;
      tag = tag-by p i (Some id) same_ids told tag;
      is = place-by p id (Some k) same ids_are found is;
      at = get_or_from_slice_get p.columns k x x (ap (λ cs. slice_get cs k) (sym same_columns) ∙ column);
    }
