-- The columns before this one are appended.
use Rattle.std.proofs.Common.{◌≡◌, ◌++◌, take}
use Rattle.vx_table.proofs.beside.append_columns.Given as goal

abbrev pub invariant-loop-i : goal.invariant-loop-i
invariant-loop-i l = l.to.items ≡ l.fn.to.items ++ take l.i l.columns
