use Rattle.std.proofs.Common.{◌≡◌, ◌++◌, map, slice_range}
use Rattle.vx_print.specs.Text.{comma_list, row_text}
use Rattle.vx_print.proofs.texts.push_listed.Given as goal

-- the rows from the first one on stand behind what was there
abbrev pub invariant-loop-i : goal.invariant-loop-i
invariant-loop-i l =
    l.text.items ≡ l.initial.text.items ++ comma_list (map (row_text l.column.dtype) (slice_range l.column.rows l.start l.i))
