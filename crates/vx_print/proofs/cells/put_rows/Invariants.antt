use Rattle.std.proofs.Common.{◌≡◌, ◌+◌, ◌*◌, ◌-◌, ◌≤◌, take, drop}
use Rattle.vx_print.specs.Text.{lines, row_text}
use Rattle.vx_print.proofs.cells.put_rows.Given as goal

-- the lines of the last k rows are written
abbrev pub invariant-loop-k : goal.invariant-loop-k
invariant-loop-k l = record {
  room : 4352 ≤ l.at + 67 * l.k;
  within : l.at ≤ 4352;
  put : drop l.at l.dst ≡ lines (row_text l.column.dtype) (drop (l.end - l.k) (take l.end l.column.rows));
}
