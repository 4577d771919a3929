-- One variant more.
use Rattle.std.proofs.Common.{List, map, Some, sym, ap, ◌∙◌}
use Rattle.vx_types.specs.DType.{type_of}
use Rattle.vx_types.specs.declared.dtype.DType.{DType}
use Rattle.vx_model.specs.Column.{Column}
use Rattle.vx_column.specs.declared.cell.Cell.{Cell}
use Rattle.vx_interleave.specs.Rows.{rows_in, shown_as}
use Rattle.vx_interleave.specs.Unions.{variant_rows}
use Rattle.vx_interleave.proofs.VariantKinds.{variant_at, variants_more}
use Rattle.vx_interleave.proofs.gathering.+gather.Goals as goal

pub gather_variants-variant_cells-requires-clause-variant : goal.gather_variants-variant_cells-requires-clause-variant
gather_variants-variant_cells-requires-clause-variant t c =
    variant_at c.args.variants.now c.ids-ids.result.now c.types-types.result.now c.ids-ids.ensures.valid c.ids-ids.ensures.value c.types-types.ensures.value
    c.loop-k.k c.index-types-k.result c.loop-k-test.true
    ∙ ap (λ (d : DType). Some (type_of d)) (sym c.index-types-k.is)

pub gather_variants-loop-k-preserved : goal.gather_variants-loop-k-preserved
gather_variants-loop-k-preserved t c =
    let rows = variant_rows c.args.variants.now c.args.nullability (rows_in c.args.cells.now) in let shown = shown_as (type_of c.index-types-k.result) in
    variants_more c.args.variants.now c.ids-ids.result.now c.types-types.result.now c.ids-ids.ensures.valid c.ids-ids.ensures.value c.types-types.ensures.value
    c.loop-k.k c.index-types-k.result rows c.loop-k.columns.items c.push.new.self.items c.in_ok-into_ref.field-0 c.loop-k-test.true c.loop-k.invariant
    (ap (λ (a : Column). a.dtype) c.in_ok-into_ref.ensures ∙ c.in_ok-gather.ensures.dtype ∙ ap type_of c.index-types-k.is)
    (ap (λ (a : Column). a.rows) c.in_ok-into_ref.ensures ∙ c.in_ok-gather.ensures.rows
    ∙ ap (λ (l : List Cell). map shown (rows_in l)) c.deref.ensures.value ∙ c.in_ok-rows.ensures.rows)
    c.in_ok-push.ensures.items
