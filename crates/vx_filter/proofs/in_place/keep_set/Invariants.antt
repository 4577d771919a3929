use Rattle.std.proofs.Common.{◌≡◌, ◌*◌, take, drop, map, Some}
use Rattle.std.specs.List.{slice_get}
use Rattle.vx_bits.specs.BitBuffer.{true_count_of}
use Rattle.vx_mask.specs.Positions.{set_of}
use Rattle.vx_filter.proofs.in_place.keep_set.Given as goal

abbrev pub invariant-loop-w : goal.invariant-loop-w
invariant-loop-w g l = record {
  front : map Some (take l.kept l.values) ≡ map (slice_get l.initial.values) (set_of (take (64 * l.w) l.bits.bits));
  after : drop (64 * l.w) l.values ≡ drop (64 * l.w) l.initial.values;
  count : l.kept ≡ true_count_of (take (64 * l.w) l.bits.bits);
}
