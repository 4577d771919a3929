-- The records before the one at hand are widened, and there is room for the others.
use Rattle.std.proofs.Common.{◌≡◌, length, map, take}
use Rattle.std.specs.Int.{w32, w64, from_le_bytes}
use Rattle.std.specs.Vec.{vec_capacity}
use Rattle.vx_text.proofs.offsets.widened.Given as goal

abbrev pub invariant-loop-record : goal.invariant-loop-record
invariant-loop-record l = record {
  numbers : map (from_le_bytes w64) l.wide.items ≡ map (from_le_bytes w32) (take l.record-index l.records);
  len : length l.wide.items ≡ l.record-index;
  room : vec_capacity l.wide ≡ l.room;
}
