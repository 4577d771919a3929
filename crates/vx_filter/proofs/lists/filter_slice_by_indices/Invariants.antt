use Rattle.std.proofs.Common.{◌≡◌, Some, map, take}
use Rattle.std.specs.List.{slice_get}
use Rattle.std.specs.Vec.{vec_capacity}
use Rattle.std.proofs.Common.{length}
use Rattle.vx_filter.proofs.lists.filter_slice_by_indices.Given as goal

abbrev pub invariant-loop-index : goal.invariant-loop-index
invariant-loop-index g l = record {
  items : map Some l.kept.items ≡ map (slice_get l.src) (take l.index-index l.indices);
  room : vec_capacity l.kept ≡ length l.indices;
}
