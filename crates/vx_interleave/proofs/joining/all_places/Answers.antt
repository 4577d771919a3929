-- The places of one column more.
use Rattle.std.proofs.Common.{length, ap, ◌∙◌}
use Rattle.vx_model.specs.Column.{Column}
use Rattle.vx_interleave.specs.Sources.{rows_of}
use Rattle.vx_interleave.proofs.AllPlaces.{column_below, column_rows, more_places}
use Rattle.vx_interleave.proofs.joining.all_places.Goals as goal

pub loop-column-preserved : goal.loop-column-preserved
loop-column-preserved c =
    let columns = c.args.columns.now in let k = c.loop-column.column in
    more_places (rows_of columns) c.loop-column.order.items c.push_places.new.order.items k c.len.result c.loop-column.invariant
    (column_below columns k c.get.result.now c.get.ensures)
    (c.len.ensures ∙ ap (λ (x : Column). length x.rows) c.deref.ensures ∙ ap length (column_rows columns k c.get.result.now c.get.ensures))
    c.in_ok-push_places.ensures
