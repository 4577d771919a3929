use Rattle.std.proofs.Common.{◌≡◌, ◌+◌, ◌++◌, Some, map, take, vec_len}
use Rattle.std.specs.List.{slice_get}
use Rattle.std.specs.Vec.{vec_capacity}
use Rattle.vx_filter.proofs.compress.push_byte.Given as goal

abbrev pub invariant-loop-place : goal.invariant-loop-place
invariant-loop-place g l = record {
  items : map Some l.kept.items ≡ map Some l.initial.kept.items ++ map (λ p. slice_get l.items (l.base + p)) (take l.place-index l.row);
  len : vec_len l.kept ≡ vec_len l.initial.kept + l.place-index;
  room : vec_capacity l.kept ≡ vec_capacity l.initial.kept;
}
