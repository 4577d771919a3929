use Rattle.std.proofs.Common.{◌≡◌, ◌^◌, ◌<◌, ◌≤◌, ◌++◌, length, map, take, drop}
use Rattle.vx_mask.specs.Positions.{maximal_runs}
use Rattle.vx_words.specs.Runs.{open_start, pairs, rows_of, run_of}
use Rattle.vx_words.proofs.RunMarks.{ahead}
use Rattle.vx_words.proofs.runs.put_runs.Given as goal

abbrev pub invariant-loop-w : goal.invariant-loop-w
invariant-loop-w l = record {
  told : take l.told.count l.dst ++ map run_of (pairs l.rows (open_start l.told.begun ++ ahead l.words l.w l.before)) ≡ map run_of (maximal_runs (rows_of l.words l.rows));
  within : l.told.count ≤ length l.dst;
  before : l.before < 2 ^ 64;
  rest : drop l.told.count l.dst ≡ drop l.told.count l.initial.dst;
}
