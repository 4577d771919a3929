-- The lengths of the columns so far.
use Rattle.std.proofs.Common.{◌≡◌, length, map, take}
use Rattle.vx_interleave.specs.Sources.{rows_of}
use Rattle.rows_of_selections.proofs.parted.lengths_of.Given as goal

abbrev pub invariant-loop-column : goal.invariant-loop-column
invariant-loop-column l = l.lengths.items ≡ map length (rows_of (take l.column-index l.columns))
