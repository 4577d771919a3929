use Rattle.std.proofs.Common.{◌≡◌, ◌*◌, take, drop, map, Some}
use Rattle.std.specs.List.{slice_get}
use Rattle.vx_bits.specs.BitBuffer.{true_count_of}
use Rattle.vx_mask.specs.Positions.{set_of}
use Rattle.vx_words.proofs.in_place.keep_words.Given as goal

abbrev pub invariant-loop-i : goal.invariant-loop-i
invariant-loop-i g l =
    let first = take (64 * l.i) l.mask in
    record {
      front : map Some (take l.kept l.values) ≡ map (slice_get l.initial.values) (set_of first);
      after : drop (64 * l.i) l.values ≡ drop (64 * l.i) l.initial.values;
      count : l.kept ≡ true_count_of first;
    }
