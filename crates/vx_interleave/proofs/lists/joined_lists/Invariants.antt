-- The lists of the rows so far.
use Rattle.std.proofs.Common.{map, take}
use Rattle.vx_types.specs.DType.{type_of}
use Rattle.vx_interleave.specs.Lists.{JoinsLists, elements_in}
use Rattle.vx_interleave.specs.Rows.{rows_in}
use Rattle.vx_interleave.proofs.lists.joined_lists.Given as goal

abbrev pub invariant-loop-cell : goal.invariant-loop-cell
invariant-loop-cell l = JoinsLists (type_of l.dtype) (map elements_in (rows_in (take l.cell-index l.cells))) l.starts.numbers l.elements.items
