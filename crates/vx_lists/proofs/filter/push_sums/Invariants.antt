use Rattle.std.proofs.Common.{◌≡◌, ◌+◌, ◌-◌, ◌++◌, map, get_or}
use Rattle.std.specs.List.{range_with_len, sum_by}
use Rattle.std.specs.Prelude.{vec_len}
use Rattle.std.specs.Vec.{vec_capacity}
use Rattle.vx_lists.specs.Sums.{length_at, sums_from}
use Rattle.vx_lists.proofs.filter.push_sums.Given as goal

abbrev pub invariant-loop-i : goal.invariant-loop-i
invariant-loop-i l = record {
  items : l.sums.items ≡ l.initial.sums.items ++ sums_from l.before (map (length_at l.offsets) (range_with_len l.first (l.i - l.first)));
  total : l.total ≡ l.before + sum_by (length_at l.offsets) (range_with_len l.first (l.i - l.first));
  place : l.total + l.shift ≡ get_or l.offsets l.i 0;
  count : vec_len l.sums ≡ vec_len l.initial.sums + (l.i - l.first);
  room : vec_capacity l.sums ≡ vec_capacity l.initial.sums;
}
