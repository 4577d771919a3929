use Rattle.std.proofs.Common.{◌≡◌, ◌+◌, length, take, drop}
use Rattle.std.specs.Prelude.{vec_len}
use Rattle.std.specs.Vec.{vec_capacity}
use Rattle.vx_mask.specs.Positions.{run_positions}
use Rattle.vx_lists.proofs.SummedRows.{AreSummed}
use Rattle.vx_lists.proofs.filter.sums_by_runs.Given as goal

abbrev pub invariant-loop-run : goal.invariant-loop-run
invariant-loop-run l = record {
  summed : AreSummed l.offsets (run_positions (take l.run-index l.runs)) (run_positions (drop l.run-index l.runs)) l.sums.items l.total;
  count : vec_len l.sums ≡ length (run_positions (take l.run-index l.runs)) + 1;
  room : vec_capacity l.sums ≡ l.count + 1;
}
