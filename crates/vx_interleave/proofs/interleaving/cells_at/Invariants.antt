-- A cell for each place so far.
use Rattle.std.proofs.Common.{◌≡◌, map, take}
use Rattle.vx_types.specs.DType.{type_of}
use Rattle.vx_types.specs.RowValue.{null}
use Rattle.vx_interleave.specs.Places.{interleaved}
use Rattle.vx_interleave.specs.Rows.{AreCellsOf, rows_in, shown_as}
use Rattle.vx_interleave.specs.Sources.{rows_of}
use Rattle.vx_interleave.proofs.interleaving.cells_at.Given as goal

abbrev pub invariant-loop-place : goal.invariant-loop-place
invariant-loop-place l = record {
  of_kind : AreCellsOf (type_of l.dtype).kind l.cells.items;
  rows : map (shown_as (type_of l.dtype)) (rows_in l.cells.items) ≡ interleaved null (rows_of l.columns) (take l.place-index l.order);
}
