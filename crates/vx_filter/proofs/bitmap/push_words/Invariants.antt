use Rattle.std.proofs.Common.{◌≡◌, ◌≤◌, ◌*◌, take}
use Rattle.std.specs.Vec.{vec_capacity}
use Rattle.std.specs.List.{items_where_true}
use Rattle.vx_bits.specs.BitBuffer.{true_count_of}
use Rattle.vx_filter.proofs.bitmap.push_words.Given as goal

abbrev pub invariant-loop-w : goal.invariant-loop-w
invariant-loop-w g l = record {
  items : l.kept.items ≡ items_where_true (take (64 * l.w) l.mask.bits.bits) l.src;
  room : true_count_of l.mask.bits.bits ≤ vec_capacity l.kept;
}
