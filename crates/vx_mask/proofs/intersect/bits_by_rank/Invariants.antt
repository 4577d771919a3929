use Rattle.std.proofs.Common.{◌≡◌, ◌*◌, ◌++◌, length, take, drop, false}
use Rattle.std.specs.List.{items_where_true}
use Rattle.vx_bits.specs.BitBuffer.{true_count_of}
use Rattle.vx_mask.specs.Positions.{AllBits, positions, set_of}
use Rattle.vx_mask.proofs.intersect.bits_by_rank.Given as goal

abbrev pub invariant-loop-w : goal.invariant-loop-w
invariant-loop-w l = record {
  ranks : l.from ≡ true_count_of (take (64 * l.w) l.bits.bits);
  set : set_of l.kept ++ items_where_true (drop l.from l.by.bits) (positions (64 * l.w) (drop (64 * l.w) l.bits.bits))
      ≡ items_where_true l.by.bits (set_of l.bits.bits);
  long : length l.kept ≡ length l.bits.bits;
  clear : AllBits l.kept (64 * l.w) (length l.bits.bits) false;
}
