-- The types of a union's columns are those of its variants; the parts that a step leaves.
use Rattle.std.proofs.Common.{◌≡◌, ◌<◌, ℕ, Bool, true, false, List, length, slice_range, Option, None, Some, refl, sym, ap, subst, ◌∙◌}
use Rattle.std.specs.Prelude.{is_some}
use Rattle.std.specs.List.{items_where_true}
use Rattle.std.specs.Option.{option_map}
use Rattle.vx_types.specs.declared.nullability.Nullability.{Nullability}
use Rattle.vx_types.specs.RowValue.{null}
use Rattle.vx_take.specs.Picks.{at, BoundedPicks}
use Rattle.vx_model.specs.Column.{Column}
use Rattle.vx_model.specs.Columns.{AreCuts, AreSteps, firsts_for_nulls, types_in}
use Rattle.vx_model.specs.Records.{RecordParts, records_with}
use Rattle.vx_model.specs.Step.{IsCut, IsSlice, IsTake}
use Rattle.vx_model.specs.Union.{UnionParts, IsUnionFilter, offsets_left, union_fault}
use Rattle.vx_model.specs.Valid.{non_nullable}
use Rattle.vx_model.proofs.StructSteps.{same_trees}
use Rattle.vx_model.proofs.UnionSteps.{alike-union}
use Rattle.vx_stored.specs.Records.{zero_record}
use Rattle.vx_dispatch.specs.Union.{IsUnionSlice, IsUnionTake, offsets_at, offsets_between}
use Rattle.vx_types.proofs.Alike.{types_of-same}

pub types-variants : (p : UnionParts) → union_fault p ≡ None → p.variants.types ≡ types_in p.columns
types-variants p h = sym (types_of-same (types_in p.columns) p.variants.types (same_trees _ _ (alike-union p h)))

-- the ids that are taken by a copy of the picks
pub ids_taken : {given ids a x : Column} {copy picks : BoundedPicks} (n : Nullability) → given ≡ ids → copy ≡ picks → x ≡ a → IsTake given copy.picks n a → IsTake ids picks.picks n x
ids_taken {given} {ids} {a} {x} {copy} {picks} n same copied is taken =
    subst (IsTake ids picks.picks n) (sym is)
    (subst (λ (b : BoundedPicks). IsTake ids b.picks n a) copied (subst (λ (c : Column). IsTake c copy.picks n a) same taken))

-- ---- the parts that a filter leaves

module _ (p : UnionParts) (mask : List Bool) (a : Column) (ids : IsCut p.ids (items_where_true mask p.ids.rows) a) where
  pub parts-sparse : (cs : List Column) → p.offsets ≡ None → AreCuts (items_where_true mask) p.columns cs → IsUnionFilter p mask (record p { ids = a; offsets = None; columns = cs })
  parts-sparse cs none cuts =
      record {
        ids = ids;
        offsets = sym (ap (option_map (offsets_left mask)) none);
        dense = λ some. absurd (let no : false ≡ true = ap is_some (sym none) ∙ some in cc);
        sparse = λ _. cuts;
      }

  pub parts-dense : (o : RecordParts) → p.offsets ≡ Some o → IsUnionFilter p mask (record p { ids = a; offsets = Some (records_with o (items_where_true mask o.records) non_nullable) })
  parts-dense o some =
      record {
        ids = ids;
        offsets = sym (ap (option_map (offsets_left mask)) some);
        dense = λ _. refl;
        sparse = λ none. absurd (let no : true ≡ false = ap is_some (sym some) ∙ none in cc);
      }

-- ---- the parts that a slice leaves

module _ (p : UnionParts) (s e : ℕ) (a : Column) (ids : IsSlice p.ids s e a) where
  pub sliced-sparse : (cs : List Column) → p.offsets ≡ None → AreCuts (λ rows. slice_range rows s e) p.columns cs → IsUnionSlice p s e (record p { ids = a; offsets = None; columns = cs })
  sliced-sparse cs none cuts =
      record {
        ids = ids;
        offsets = sym (ap (option_map (offsets_between s e)) none);
        dense = λ some. absurd (let no : false ≡ true = ap is_some (sym none) ∙ some in cc);
        sparse = λ _. cuts;
      }

  pub sliced-dense : (o : RecordParts) → p.offsets ≡ Some o → IsUnionSlice p s e (record p { ids = a; offsets = Some (records_with o (slice_range o.records s e) non_nullable) })
  sliced-dense o some =
      record {
        ids = ids;
        offsets = sym (ap (option_map (offsets_between s e)) some);
        dense = λ _. refl;
        sparse = λ none. absurd (let no : true ≡ false = ap is_some (sym some) ∙ none in cc);
      }

-- ---- the parts that a take leaves

module _ (p : UnionParts) (picks : List (Option ℕ)) (n : Nullability) (a : Column) (ids : IsTake p.ids picks n a) where
  pub taken-sparse : (cs : List Column) → p.offsets ≡ None → (0 < length p.ids.rows → AreSteps (λ rows. at null rows (firsts_for_nulls picks)) p.columns cs) → IsUnionTake p picks n (record p { ids = a; offsets = None; columns = cs })
  taken-sparse cs none steps =
      record {
        ids = ids;
        offsets = sym (ap (option_map (offsets_at picks)) none);
        dense = λ some. absurd (let no : false ≡ true = ap is_some (sym none) ∙ some in cc);
        sparse = λ _. steps;
      }

  pub taken-dense : (o : RecordParts) → p.offsets ≡ Some o → IsUnionTake p picks n (record p { ids = a; offsets = Some (records_with o (at (zero_record o.width) o.records picks) non_nullable) })
  taken-dense o some =
      record {
        ids = ids;
        offsets = sym (ap (option_map (offsets_at picks)) some);
        dense = λ _. refl;
        sparse = λ none. absurd (let no : true ≡ false = ap is_some (sym some) ∙ none in cc);
      }
