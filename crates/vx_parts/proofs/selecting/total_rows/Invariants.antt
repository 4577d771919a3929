-- The rows so far, and those that are left.
use Rattle.std.proofs.Common.{◌≡◌, ◌+◌, drop, length, map}
use Rattle.std.specs.List.{sum}
use Rattle.vx_interleave.specs.Sources.{rows_of}
use Rattle.vx_parts.proofs.selecting.total_rows.Given as goal

abbrev pub invariant-loop-column : goal.invariant-loop-column
invariant-loop-column l = l.total + sum (map length (rows_of (drop l.column-index l.columns))) ≡ sum (map length (rows_of l.columns))
