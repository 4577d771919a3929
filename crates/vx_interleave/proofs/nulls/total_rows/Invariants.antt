-- The rows so far, and those of the columns that are left.
use Rattle.std.proofs.Common.{◌≡◌, ◌+◌, ◌<◌, ◌^◌, drop, length, map}
use Rattle.std.specs.List.{sum}
use Rattle.vx_interleave.specs.Sources.{rows_of}
use Rattle.vx_interleave.proofs.nulls.total_rows.Given as goal

abbrev pub invariant-loop-column : goal.invariant-loop-column
invariant-loop-column l = record {
  so : l.total + sum (map length (rows_of (drop l.column-index l.columns))) ≡ sum (map length (rows_of l.columns));
  fits : l.total < 2 ^ 64;
}
