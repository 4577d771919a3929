use Rattle.std.proofs.Common.{◌≡◌, ◌+◌, length, take, drop}
use Rattle.std.specs.Prelude.{vec_len}
use Rattle.std.specs.Vec.{vec_capacity}
use Rattle.vx_lists.proofs.SummedRows.{AreSummed}
use Rattle.vx_lists.proofs.filter.sums_by_indices.Given as goal

abbrev pub invariant-loop-index : goal.invariant-loop-index
invariant-loop-index l = record {
  summed : AreSummed l.offsets (take l.index-index l.indices) (drop l.index-index l.indices) l.sums.items l.total;
  count : vec_len l.sums ≡ l.index-index + 1;
  room : vec_capacity l.sums ≡ length l.indices + 1;
}
