use Rattle.std.proofs.Common.{◌≡◌, ◌≤◌, take}
use Rattle.std.specs.Prelude.{count_by}
use Rattle.vx_types.specs.RowValue.{is_null}
use Rattle.vx_rows.proofs.made.nulls_in.Given as goal

-- the nulls among the rows so far
abbrev pub invariant-loop-i : goal.invariant-loop-i
invariant-loop-i l = record {
  counted : l.nulls ≡ count_by is_null (take l.i l.rows.rows);
  few : l.nulls ≤ l.i;
}
