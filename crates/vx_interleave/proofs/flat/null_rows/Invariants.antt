-- As many nulls as rows so far.
use Rattle.std.proofs.Common.{◌≡◌, replicate, take}
use Rattle.vx_types.specs.RowValue.{null}
use Rattle.vx_interleave.specs.Rows.{rows_in}
use Rattle.vx_interleave.proofs.flat.null_rows.Given as goal

abbrev pub invariant-loop-cell : goal.invariant-loop-cell
invariant-loop-cell l = record {
  count : l.len ≡ l.cell-index;
  nulls : replicate l.len null ≡ rows_in (take l.cell-index l.cells);
}
