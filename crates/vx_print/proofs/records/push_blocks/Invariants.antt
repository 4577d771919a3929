use Rattle.std.proofs.Common.{◌≡◌, ◌*◌, ◌++◌, take}
use Rattle.vx_print.specs.Text.{lines, row_text_by}
use Rattle.vx_print.specs.Records.{record_text, record_rows, bits_in}
use Rattle.vx_print.proofs.records.push_blocks.Given as goal

-- the lines of the rows of the first k blocks stand behind what was there
abbrev pub invariant-loop-k : goal.invariant-loop-k
invariant-loop-k g l = l.text.items ≡ l.initial.text.items ++ lines (row_text_by (record_text l.form)) (take (64 * l.k) (record_rows (bits_in l.bits) l.records))
