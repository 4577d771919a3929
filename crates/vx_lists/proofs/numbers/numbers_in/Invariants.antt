use Rattle.std.proofs.Common.{◌≡◌, take}
use Rattle.std.specs.Prelude.{vec_len}
use Rattle.std.specs.Vec.{vec_capacity}
use Rattle.vx_offsets.specs.Offsets.{offset_positions, record_numbers}
use Rattle.vx_lists.specs.Numbers.{AreInType}
use Rattle.vx_lists.proofs.numbers.numbers_in.Given as goal

abbrev pub invariant-loop-i : goal.invariant-loop-i
invariant-loop-i g l = record {
  items : l.numbers.items ≡ take l.i (offset_positions (record_numbers l.ptype l.records));
  small : AreInType l.ptype l.numbers.items;
  count : vec_len l.numbers ≡ l.i;
  room : vec_capacity l.numbers ≡ l.count;
}
