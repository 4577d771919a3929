use Rattle.std.proofs.Common.{◌≡◌, length, map, take}
use Rattle.std.specs.Prelude.{vec_len}
use Rattle.std.specs.Vec.{vec_capacity}
use Rattle.vx_lists.proofs.numbers.written.Given as goal

abbrev pub invariant-loop-offset : goal.invariant-loop-offset
invariant-loop-offset g l = record {
  items : l.records.items ≡ map g.T.OffsetRecord.spelled (take l.offset-index l.offsets);
  count : vec_len l.records ≡ l.offset-index;
  room : vec_capacity l.records ≡ length l.offsets;
}
