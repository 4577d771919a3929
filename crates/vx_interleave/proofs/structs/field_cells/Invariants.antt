-- A cell of the field for each row so far.
use Rattle.std.proofs.Common.{◌≡◌, map, take}
use Rattle.vx_types.specs.DType.{type_of}
use Rattle.vx_interleave.specs.Rows.{AreCellsOf, rows_in, shown_as}
use Rattle.vx_interleave.specs.Structs.{field_in}
use Rattle.vx_interleave.proofs.structs.field_cells.Given as goal

abbrev pub invariant-loop-cell : goal.invariant-loop-cell
invariant-loop-cell l = record {
  of_kind : AreCellsOf (type_of l.dtype).kind l.field.items;
  rows : map (shown_as (type_of l.dtype)) (rows_in l.field.items) ≡ map (field_in (type_of l.dtype) l.k) (rows_in (take l.cell-index l.cells));
}
