use Rattle.std.proofs.Common.{◌≡◌, ◌+◌, ◌*◌, vec_len}
use Rattle.std.specs.Vec.{vec_capacity}
use Rattle.vx_bitfilter.specs.Table.{first_entries}
use Rattle.vx_bitfilter.proofs.table.push_row.Given as goal

abbrev pub invariant-loop-upper : goal.invariant-loop-upper
invariant-loop-upper l = record {
  items : l.entries.items ≡ first_entries (256 * l.mask + 2 * l.upper);
  len : vec_len l.entries ≡ 256 * l.mask + 2 * l.upper;
  capacity : vec_capacity l.entries ≡ vec_capacity l.initial.entries;
}
