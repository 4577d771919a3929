-- One row more.
use Rattle.std.proofs.Common.{◌≡◌, arith, subst}
use Rattle.std.specs.Prelude.{slice_range}
use Rattle.vx_types.specs.DType.{type_of}
use Rattle.vx_interleave.specs.Lists.{AddsRows}
use Rattle.vx_interleave.proofs.ListCells.{none_yet, one_row}
use Rattle.vx_interleave.proofs.lists.push_rows.Goals as goal

pub loop-row-init : goal.loop-row-init
loop-row-init c = none_yet (type_of c.args.dtype.now) c.args.column.now.rows c.args.start c.args.cells.now.items

pub loop-row-preserved : goal.loop-row-preserved
loop-row-preserved c =
    one_row (type_of c.args.dtype.now) c.args.column.now.rows c.args.start c.loop-row.row c.cell_in.result c.args.cells.now.items c.loop-row.cells.items c.push.new.self.items
    (omega arith) (omega arith) c.cell_in.ensures.of_kind c.cell_in.ensures.row c.loop-row.invariant c.in_ok-push.ensures.items

pub returns : goal.returns
returns c =
    let end : c.loop-row.row ≡ c.args.end = omega arith in
    subst (λ n. AddsRows (type_of c.args.dtype.now) (slice_range c.args.column.now.rows c.args.start n) c.args.cells.now.items c.loop-row.cells.items) end c.loop-row.invariant
