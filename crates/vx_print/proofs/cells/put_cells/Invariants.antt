use Rattle.std.proofs.Common.{◌≡◌, ◌+◌, ◌*◌, ◌-◌, ◌≤◌, map, take, drop}
use Rattle.vx_print.specs.Text.{comma_list, row_text}
use Rattle.vx_print.proofs.cells.put_cells.Given as goal

-- the last k rows are written
abbrev pub invariant-loop-k : goal.invariant-loop-k
invariant-loop-k l = record {
  room : 4352 ≤ l.at + 68 * l.k;
  within : l.at ≤ 4352;
  put : drop l.at l.dst ≡ comma_list (map (row_text l.column.dtype) (drop (l.end - l.k) (take l.end l.column.rows)));
}
