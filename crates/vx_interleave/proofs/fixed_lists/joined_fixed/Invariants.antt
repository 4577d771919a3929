-- The lists of the rows so far.
use Rattle.std.proofs.Common.{map, take}
use Rattle.vx_types.specs.DType.{type_of}
use Rattle.vx_interleave.specs.Lists.{JoinsFixed, elements_of}
use Rattle.vx_interleave.specs.Rows.{rows_in}
use Rattle.vx_interleave.proofs.fixed_lists.joined_fixed.Given as goal

abbrev pub invariant-loop-cell : goal.invariant-loop-cell
invariant-loop-cell l = JoinsFixed (type_of l.dtype) l.size (map (elements_of (type_of l.dtype) l.size) (rows_in (take l.cell-index l.cells))) l.elements.items
