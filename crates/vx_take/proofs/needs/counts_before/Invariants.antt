use Rattle.std.proofs.Common.{◌≡◌, ◌*◌, length, map, take}
use Rattle.std.specs.List.{range_with_len}
use Rattle.std.specs.Vec.{vec_capacity}
use Rattle.vx_bits.specs.BitBuffer.{true_count_of}
use Rattle.vx_take.proofs.needs.counts_before.Given as goal

abbrev pub invariant-loop-w : goal.invariant-loop-w
invariant-loop-w l = record {
  items : l.counts.items ≡ map (λ w. true_count_of (take (64 * w) l.bits.bits)) (range_with_len 0 l.w);
  count : l.count ≡ true_count_of (take (64 * l.w) l.bits.bits);
  len : length l.counts.items ≡ l.w;
  room : vec_capacity l.counts ≡ l.words;
}
