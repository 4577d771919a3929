use Rattle.std.proofs.Common.{◌≡◌, drop, map, take, length}
use Rattle.std.specs.List.{slice_get}
use Rattle.vx_mask.specs.Positions.{run_positions}
use Rattle.vx_filter.proofs.Moves.{IsMovingOn}
use Rattle.vx_filter.proofs.in_place.keep_slices.Given as goal

abbrev pub invariant-loop-run : goal.invariant-loop-run
invariant-loop-run g l = record {
  moving : IsMovingOn (map (slice_get l.initial.values) (run_positions l.slices)) l.values l.kept (run_positions (drop l.run-index l.slices));
  count : l.kept ≡ length (run_positions (take l.run-index l.slices));
}
