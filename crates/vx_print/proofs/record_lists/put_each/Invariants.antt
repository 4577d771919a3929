use Rattle.std.proofs.Common.{◌≡◌, ◌+◌, ◌*◌, ◌-◌, ◌≤◌, length, map, take, drop}
use Rattle.vx_print.specs.Records.{record_text}
use Rattle.vx_print.specs.Text.{comma_list}
use Rattle.vx_print.proofs.record_lists.put_each.Given as goal

-- the last k records are written
abbrev pub invariant-loop-k : goal.invariant-loop-k
invariant-loop-k g l = record {
  room : 4352 ≤ l.at + 68 * l.k;
  within : l.at ≤ 4352;
  put : drop l.at l.dst ≡ comma_list (map (record_text l.form) (drop (length l.records - l.k) (take (length l.records) l.records)));
}
