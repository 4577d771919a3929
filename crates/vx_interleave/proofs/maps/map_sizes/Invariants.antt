-- The sizes of the lists so far.
use Rattle.std.proofs.Common.{◌≡◌, length, map, take}
use Rattle.vx_interleave.specs.Lists.{elements_in}
use Rattle.vx_interleave.specs.Rows.{rows_in}
use Rattle.vx_interleave.proofs.maps.map_sizes.Given as goal

abbrev pub invariant-loop-cell : goal.invariant-loop-cell
invariant-loop-cell l = l.sizes.numbers ≡ map length (map elements_in (rows_in (take l.cell-index l.cells)))
