use Rattle.std.proofs.Common.{◌≡◌, ◌≤◌, take}
use Rattle.std.specs.Prelude.{count_by, not}
use Rattle.vortex_select.specs.RowValue.{is_null}
use Rattle.calling.proofs.reading.present_rows.Given as goal

abbrev pub invariant-loop-i : goal.invariant-loop-i
invariant-loop-i l = record {
  counted : l.present ≡ count_by (λ row. not (is_null row)) (take l.i l.column.rows);
  within : l.present ≤ l.i;
}
