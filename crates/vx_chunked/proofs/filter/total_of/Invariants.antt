use Rattle.std.proofs.Common.{◌≡◌, length, take}
use Rattle.vx_mask.specs.Positions.{run_positions}
use Rattle.vx_chunked.proofs.filter.total_of.Given as goal

abbrev pub invariant-loop-start : goal.invariant-loop-start
invariant-loop-start l = l.total ≡ length (run_positions (take l.start-index l.slices))
