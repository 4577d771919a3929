use Rattle.std.proofs.Common.{drop, map}
use Rattle.std.specs.List.{slice_get}
use Rattle.vx_filter.proofs.Moves.{IsMovingOn}
use Rattle.vx_filter.proofs.in_place.keep_indices.Given as goal

abbrev pub invariant-loop-i : goal.invariant-loop-i
invariant-loop-i g l = IsMovingOn (map (slice_get l.initial.values) l.indices) l.values l.i (drop l.i l.indices)
