-- The positions of the records so far.
use Rattle.std.proofs.Common.{◌≡◌, ◌<◌, length, map, take}
use Rattle.std.specs.List.{All}
use Rattle.std.specs.Vec.{vec_capacity}
use Rattle.vx_types.specs.PType.{number}
use Rattle.vx_positions.specs.Positions.{position_of}
use Rattle.vx_positions.proofs.present.positions_present.Given as goal

abbrev pub invariant-loop-record : goal.invariant-loop-record
invariant-loop-record g l = record {
  items : l.positions.items ≡ map (λ r. position_of (number l.ptype r)) (take l.record-index l.records);
  below : All (λ p. p < l.len) l.positions.items;
  len : length l.positions.items ≡ l.record-index;
  room : vec_capacity l.positions ≡ length l.records;
}
