use Rattle.std.proofs.Common.{◌≡◌, map, slice_range}
use Rattle.vx_types.specs.Row.{row_value}
use Rattle.std.proofs.Common.{take, get_or}
use Rattle.vx_types.specs.RowValue.{null}
use Rattle.vx_model.specs.Column.{Column}
use Rattle.vx_reading.proofs.rows.+rows.Given as goal

abbrev pub invariant-rows_from-loop-i : goal.invariant-rows_from-loop-i
invariant-rows_from-loop-i l =
    map row_value l.rows.items ≡ slice_range l.column.rows l.start l.i

abbrev pub invariant-fields_at-loop-column : goal.invariant-fields_at-loop-column
invariant-fields_at-loop-column l =
    map row_value l.rows.items
    ≡ map (λ (c : Column). get_or c.rows l.i null) (take l.column-index l.columns)
