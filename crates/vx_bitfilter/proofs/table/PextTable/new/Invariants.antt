use Rattle.std.proofs.Common.{◌≡◌, ◌*◌, ◌≤◌, vec_len}
use Rattle.std.specs.Vec.{vec_capacity}
use Rattle.vx_bitfilter.specs.Table.{first_entries}
use Rattle.vx_bitfilter.proofs.table.PextTable.new.Given as goal

abbrev pub invariant-loop-mask : goal.invariant-loop-mask
invariant-loop-mask l = record {
  items : l.entries.items ≡ first_entries (256 * l.mask);
  len : vec_len l.entries ≡ 256 * l.mask;
  room : 65536 ≤ vec_capacity l.entries;
}
