-- The records of the numbers before the one at hand.
use Rattle.std.proofs.Common.{◌≡◌, length, map, take}
use Rattle.std.specs.Vec.{vec_capacity}
use Rattle.vx_types.specs.PType.{number}
use Rattle.vx_build.proofs.primitive.records.Given as goal

abbrev pub invariant-loop-number : goal.invariant-loop-number
invariant-loop-number g l = record {
  records : l.records.items ≡ map g.T.NativePType.record_of (take l.number-index l.numbers);
  numbers : map (number g.T.NativePType.ptype) l.records.items ≡ map g.T.NativePType.integer (take l.number-index l.numbers);
  len : length l.records.items ≡ l.number-index;
  room : vec_capacity l.records ≡ length l.numbers;
}
