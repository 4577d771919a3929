-- The ids, the places and the variants' rows are those of the rows.
use Rattle.std.proofs.Common.{ℕ, List, [], Option, map, sym, ap, ◌∙◌}
use Rattle.std.specs.Prelude.{pos}
use Rattle.vx_types.specs.FieldTypes.{VariantTypes}
use Rattle.vx_types.specs.Variants.{variants_fault}
use Rattle.vx_model.specs.Column.{Column}
use Rattle.vx_model.specs.Plain.{is_lazy_layout}
use Rattle.vx_interleave.specs.Rows.{rows_in}
use Rattle.vx_interleave.specs.Tags.{id_row, places_after, tag_in}
use Rattle.vx_interleave.specs.Unions.{variant_rows}
use Rattle.vx_interleave.proofs.MadeUnions.{MakesUnions, union_made, union_sound, union_typed}
use Rattle.vx_interleave.proofs.UnionRows.{rows_known}
use Rattle.vx_interleave.proofs.unions.gather_unions.Goals as goal

pub unions-requires : goal.unions-requires
unions-requires c =
    let v = c.args.variants.now in let n = c.args.nullability in
    let tags = c.in_ok-tags.ensures ∙ ap (λ (u : VariantTypes). map tag_in (variant_rows u n (rows_in c.args.cells.now))) c.deref-2.ensures in
    union_sound c.in_ok-ids.ids c.in_ok-places.places v c.args.columns n (variant_rows v n (rows_in c.args.cells.now)) (record {
      dtype = ap (λ (a : Column). a.dtype) c.in_ok-ids.ensures ∙ c.in_ok-gather_ids.ensures.dtype;
      tags = ap (λ (a : Column). a.rows) c.in_ok-ids.ensures ∙ c.in_ok-gather_ids.ensures.rows ∙ ap (map id_row) (c.deref-4.ensures.value ∙ tags);
      int = c.in_ok-places.ensures.integers;
      numbers = c.in_ok-places.ensures.places ∙ ap (λ (ts : List (Option ℕ)). map pos (places_after [] ts)) (c.deref-5.ensures.value ∙ tags);
      variants = c.requires.columns;
      under = rows_known v n c.args.cells.now (ap variants_fault (sym c.deref.ensures) ∙ c.ids.ensures.valid) c.requires.of_kind;
    })

pub returns : goal.returns
returns c =
    let v = c.args.variants.now in let n = c.args.nullability in let rows = variant_rows v n (rows_in c.args.cells.now) in
    let tags = c.in_ok-tags.ensures ∙ ap (λ (u : VariantTypes). map tag_in (variant_rows u n (rows_in c.args.cells.now))) c.deref-2.ensures in
    let makes : MakesUnions c.in_ok-ids.ids c.in_ok-places.places v c.args.columns n rows = record {
      dtype = ap (λ (a : Column). a.dtype) c.in_ok-ids.ensures ∙ c.in_ok-gather_ids.ensures.dtype;
      tags = ap (λ (a : Column). a.rows) c.in_ok-ids.ensures ∙ c.in_ok-gather_ids.ensures.rows ∙ ap (map id_row) (c.deref-4.ensures.value ∙ tags);
      int = c.in_ok-places.ensures.integers;
      numbers = c.in_ok-places.ensures.places ∙ ap (λ (ts : List (Option ℕ)). map pos (places_after [] ts)) (c.deref-5.ensures.value ∙ tags);
      variants = c.requires.columns;
      under = rows_known v n c.args.cells.now (ap variants_fault (sym c.deref.ensures) ∙ c.ids.ensures.valid) c.requires.of_kind;
    } in
    record {
      dtype = ap (λ (a : Column). a.dtype) c.unions.ensures ∙ union_typed c.in_ok-ids.ids c.in_ok-places.places v c.args.columns n rows makes;
      rows = ap (λ (a : Column). a.rows) c.unions.ensures ∙ union_made c.in_ok-ids.ids c.in_ok-places.places v c.args.columns n rows makes;
      direct = ap (λ (a : Column). is_lazy_layout a.layout) c.unions.ensures;
    }
