use Rattle.std.proofs.Common.{◌≡◌, ◌+◌, ◌*◌, ◌-◌, ◌≤◌, Some, length, take, drop}
use Rattle.vx_bits.specs.Words.{word_bits}
use Rattle.vx_print.specs.Text.{lines, row_text_by}
use Rattle.vx_print.specs.Records.{record_text, record_rows}
use Rattle.vx_print.proofs.records.put_block.Given as goal

-- the lines of the last k rows are written
abbrev pub invariant-loop-k : goal.invariant-loop-k
invariant-loop-k g l = record {
  room : 4352 ≤ l.at + 67 * l.k;
  within : l.at ≤ 4352;
  put : drop l.at l.dst ≡ lines (row_text_by (record_text l.form)) (drop (length l.records - l.k) (take (length l.records) (record_rows (Some (word_bits l.word (length l.records))) l.records)));
}
