-- The records of the picks before the one at hand.
use Rattle.std.proofs.Common.{◌≡◌, length, map, take}
use Rattle.std.specs.Vec.{vec_capacity}
use Rattle.vx_select.specs.IndexRecords.{index_record}
use Rattle.vx_select.proofs.picked.index_records.Given as goal

abbrev pub invariant-loop-i : goal.invariant-loop-i
invariant-loop-i l = record {
  items : l.records.items ≡ map index_record (take l.i l.picks.picks);
  len : length l.records.items ≡ l.i;
  room : vec_capacity l.records ≡ length l.picks.picks;
}
