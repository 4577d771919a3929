-- A bit for each row so far.
use Rattle.std.proofs.Common.{◌≡◌, map, take}
use Rattle.vx_interleave.specs.Rows.{is_there, rows_in}
use Rattle.vx_interleave.proofs.validity.there_bits.Given as goal

abbrev pub invariant-loop-cell : goal.invariant-loop-cell
invariant-loop-cell l = l.bits ≡ map is_there (rows_in (take l.cell-index l.cells))
