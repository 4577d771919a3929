-- The rows so far are appended.
use Rattle.std.specs.Prelude.{slice_range}
use Rattle.vx_types.specs.DType.{type_of}
use Rattle.vx_interleave.specs.Lists.{AddsRows}
use Rattle.vx_interleave.proofs.lists.push_rows.Given as goal

abbrev pub invariant-loop-row : goal.invariant-loop-row
invariant-loop-row l = AddsRows (type_of l.dtype) (slice_range l.column.rows l.start l.row) l.initial.cells.items l.cells.items
