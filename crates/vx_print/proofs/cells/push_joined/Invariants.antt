use Rattle.std.proofs.Common.{◌≡◌, ◌+◌, ◌*◌, ◌++◌, map, min, slice_range}
use Rattle.vx_print.specs.Text.{comma_list, row_text}
use Rattle.vx_print.proofs.cells.push_joined.Given as goal

-- the rows of the first k blocks stand behind what was there
abbrev pub invariant-loop-k : goal.invariant-loop-k
invariant-loop-k l = l.text.items ≡ l.initial.text.items ++ comma_list (map (row_text l.column.dtype) (slice_range l.column.rows l.start (min (l.start + 64 * l.k) l.end)))
