use Rattle.std.proofs.Common.{◌≡◌, ◌+◌, ◌*◌, ◌-◌, ◌≤◌, take, drop}
use Rattle.vx_bits.specs.Words.{word_bits}
use Rattle.vx_print.specs.Text.{bit_text, lines}
use Rattle.vx_print.proofs.bits.put_lines.Given as goal

-- the lines of the last k bits are written
abbrev pub invariant-loop-k : goal.invariant-loop-k
invariant-loop-k l = record {
  room : 4352 ≤ l.at + 6 * l.k;
  within : l.at ≤ 4352;
  put : drop l.at l.dst ≡ lines bit_text (drop (l.len - l.k) (take l.len (word_bits l.word l.len)));
}
