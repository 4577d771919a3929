use Rattle.std.proofs.Common.{◌≡◌, ◌*◌, ◌++◌, take}
use Rattle.vx_print.specs.Text.{lines, row_text}
use Rattle.vx_print.proofs.cells.push_rows.Given as goal

-- the lines of the rows of the first k blocks stand behind what was there
abbrev pub invariant-loop-k : goal.invariant-loop-k
invariant-loop-k l = l.text.items ≡ l.initial.text.items ++ lines (row_text l.column.dtype) (take (64 * l.k) l.column.rows)
