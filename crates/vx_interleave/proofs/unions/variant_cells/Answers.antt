-- One row more.
use Rattle.vx_types.specs.DType.{type_of}
use Rattle.vx_interleave.proofs.UnionRows.{variant_more}
use Rattle.vx_interleave.proofs.unions.variant_cells.Goals as goal

pub loop-cell-preserved : goal.loop-cell-preserved
loop-cell-preserved c =
    variant_more c.args.variants.now c.args.nullability c.args.cells.now c.loop-cell.cell-index c.cell-item.result c.loop-cell-test.true c.cell-item.is
    (type_of c.args.dtype.now) c.args.id c.loop-cell.chosen.items c.push_variant.new.chosen.items c.loop-cell.invariant c.in_ok-push_variant.ensures
