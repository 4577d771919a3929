-- One list more.
use Rattle.std.proofs.Common.{List, map, take, sym, subst}
use Rattle.vx_types.specs.DType.{type_of}
use Rattle.vx_types.specs.RowValue.{RowValue}
use Rattle.vx_column.specs.Cell.{row_of}
use Rattle.vx_interleave.specs.Lists.{JoinsFixed, elements_of}
use Rattle.vx_interleave.specs.Rows.{rows_in}
use Rattle.vx_interleave.proofs.CellRows.{row_more}
use Rattle.vx_interleave.proofs.JoinedRows.{fixed_more, fixed_none}
use Rattle.vx_interleave.proofs.fixed_lists.joined_fixed.Goals as goal

pub loop-cell-init : goal.loop-cell-init
loop-cell-init c = fixed_none (type_of c.args.dtype.now) c.args.size c.in_ok-elements.elements.items c.in_ok-elements.ensures.items

pub loop-cell-preserved : goal.loop-cell-preserved
loop-cell-preserved c =
    let t = type_of c.args.dtype.now in let items = c.args.cells.now in let i = c.loop-cell.cell-index in
    subst (λ (lists : List (List RowValue)). JoinsFixed t c.args.size lists c.push_fixed.new.cells.items)
    (sym (row_more (elements_of t c.args.size) items i c.cell-item.result c.loop-cell-test.true c.cell-item.is))
    (fixed_more t c.args.size (map (elements_of t c.args.size) (rows_in (take i items))) (elements_of t c.args.size (row_of c.cell-item.result)) c.loop-cell.elements.items c.push_fixed.new.cells.items c.loop-cell.invariant c.in_ok-push_fixed.ensures.rows c.in_ok-push_fixed.ensures.size)
