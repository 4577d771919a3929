use Rattle.std.proofs.Common.{◌∙◌}
use Rattle.vx_join.specs.Cells.{rows_of}
use Rattle.vx_join.proofs.CellRows.{row_starts, cell_more}
use Rattle.vx_join.proofs.cells.cells_of.Goals as goal

pub loop-column-init : goal.loop-column-init
loop-column-init c = row_starts (rows_of c.args.columns.now) c.loop-i.i c.args.count _ _ c.loop-i-test.true c.loop-i.invariant

pub loop-column-preserved : goal.loop-column-preserved
loop-column-preserved c =
    rw c.in_ok-push.ensures.items
    (cell_more c.args.columns.now c.loop-column.column-index c.loop-i.i c.column-item.result c.key_cell.result c.loop-column.cells.items _ _ c.loop-column-test.true c.column-item.is (c.key_cell.ensures ∙ c.cell_at.ensures.row) c.loop-column.invariant)
