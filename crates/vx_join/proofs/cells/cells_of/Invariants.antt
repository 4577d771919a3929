use Rattle.std.proofs.Common.{◌≡◌, ◌+◌, ◌-◌, ◌++◌, map, drop}
use Rattle.std.specs.Prelude.{slice_index_or}
use Rattle.std.specs.List.{flat_map}
use Rattle.vx_types.specs.RowValue.{null}
use Rattle.vx_join.specs.Keys.{rows_from}
use Rattle.vx_join.specs.Cells.{rows_of, value_of}
use Rattle.vx_join.proofs.cells.cells_of.Given as goal

abbrev pub invariant-loop-i : goal.invariant-loop-i
invariant-loop-i l =
    let rows = rows_of l.columns in
    map value_of l.cells.items ++ flat_map (λ row. row) (rows_from rows l.i (l.count - l.i)) ≡ flat_map (λ row. row) (rows_from rows 0 l.count)

abbrev pub invariant-loop-column : goal.invariant-loop-column
invariant-loop-column l =
    let rows = rows_of l.columns in
    (map value_of l.cells.items ++ map (λ column. slice_index_or column l.i null) (drop l.column-index rows)) ++ flat_map (λ row. row) (rows_from rows (l.i + 1) (l.count - (l.i + 1))) ≡ flat_map (λ row. row) (rows_from rows 0 l.count)
