use Rattle.std.proofs.Common.{◌≡◌, ◌≤◌, length, take, drop}
use Rattle.vx_mask.specs.Positions.{run_positions, runs_ascend}
use Rattle.vx_mask.proofs.positions.run_total.Given as goal

abbrev pub invariant-loop-run : goal.invariant-loop-run
invariant-loop-run l = record {
  rest : runs_ascend l.low l.len (drop l.run-index l.runs) ≡ runs_ascend 0 l.len l.runs;
  counted : l.total ≡ length (run_positions (take l.run-index l.runs));
  within : l.total ≤ l.low;
}
