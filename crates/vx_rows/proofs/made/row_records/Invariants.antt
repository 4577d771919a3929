use Rattle.std.proofs.Common.{◌≡◌, length, map, take}
use Rattle.std.specs.Int.{to_le_bytes, w32}
use Rattle.std.specs.Vec.{vec_capacity}
use Rattle.vx_rows.proofs.made.row_records.Given as goal

-- a record for each draw so far
abbrev pub invariant-loop-draw : goal.invariant-loop-draw
invariant-loop-draw l = record {
  records : l.records.items ≡ map (to_le_bytes w32) (take l.draw-index l.draws);
  len : length l.records.items ≡ l.draw-index;
  room : vec_capacity l.records ≡ length l.draws;
}
