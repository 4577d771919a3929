-- The variant's rows of those so far.
use Rattle.std.proofs.Common.{take}
use Rattle.vx_types.specs.DType.{type_of}
use Rattle.vx_interleave.specs.Lists.{AreShown}
use Rattle.vx_interleave.specs.Rows.{rows_in}
use Rattle.vx_interleave.specs.Tags.{rows_under}
use Rattle.vx_interleave.specs.Unions.{variant_rows}
use Rattle.vx_interleave.proofs.unions.variant_cells.Given as goal

abbrev pub invariant-loop-cell : goal.invariant-loop-cell
invariant-loop-cell l = AreShown (type_of l.dtype) (rows_under l.id (variant_rows l.variants l.nullability (rows_in (take l.cell-index l.cells)))) l.chosen.items
