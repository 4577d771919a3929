use Rattle.std.proofs.Common.{◌≡◌, ◌/◌, ◌%◌, length, map, take}
use Rattle.std.specs.Int.{to_le_bytes, w64}
use Rattle.std.specs.Vec.{vec_capacity}
use Rattle.vx_rows.proofs.made.index_records.Given as goal

-- a record for each draw so far
abbrev pub invariant-loop-draw : goal.invariant-loop-draw
invariant-loop-draw l = record {
  records : l.records.items ≡ map (λ d. to_le_bytes w64 (d / 10 % l.kept)) (take l.draw-index l.draws);
  len : length l.records.items ≡ l.draw-index;
  room : vec_capacity l.records ≡ length l.draws;
}
