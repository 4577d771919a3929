use Rattle.std.proofs.Common.{◌≡◌, ◌++◌, take}
use Rattle.vx_print.specs.Text.{lines, row_text}
use Rattle.vx_print.proofs.nested.push_nested.Given as goal

-- the lines of the first i rows stand behind what was there
abbrev pub invariant-loop-i : goal.invariant-loop-i
invariant-loop-i l = l.text.items ≡ l.initial.text.items ++ lines (row_text l.column.dtype) (take l.i l.column.rows)
