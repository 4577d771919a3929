-- The next row.
use Rattle.std.proofs.Common.{refl, arith}
use Rattle.vx_column.specs.Cell.{row_of}
use Rattle.vx_print.proofs.Gaps.{row_behind}
use Rattle.vx_print.proofs.texts.push_listed.Goals as goal

pub loop-i-preserved : goal.loop-i-preserved
loop-i-preserved c =
    let s = c.loop-i in
    row_behind c.args.column.now c.args.text.now.items c.args.start s.i s.text.items c.push_next.new.text.items c.push_row.new.text.items _ (row_of c.cell_at.result) (omega arith) (omega arith) s.invariant (c.in_ok-push_next.ensures refl) c.dtype-dtype.ensures.value c.cell_at.ensures.row (c.in_ok-push_row.ensures refl)
