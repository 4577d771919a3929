use Rattle.std.proofs.Common.{◌≡◌, ◌≤◌, take, length, vec_len, vec_capacity}
use Rattle.vx_file.specs.Reading.{held_records}
use Rattle.vx_file.proofs.columns.taken.Given as goal

abbrev pub invariant-loop-i : goal.invariant-loop-i
invariant-loop-i g l = record {
  items : l.records.items ≡ held_records g.row.N l.numbers l.starts (take l.i l.picks.picks);
  len : vec_len l.records ≡ l.i;
  room : length l.picks.picks ≤ vec_capacity l.records;
}
