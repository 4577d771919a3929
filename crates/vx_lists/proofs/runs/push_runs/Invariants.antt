use Rattle.std.proofs.Common.{◌≡◌, ◌+◌, ◌<◌, ◌≤◌, ◌++◌, vec_len}
use Rattle.std.specs.Int.RustNames.{count_ones}
use Rattle.std.specs.List.{All}
use Rattle.std.specs.Vec.{vec_capacity}
use Rattle.vx_bits.specs.Words.{word_bits}
use Rattle.vx_mask.specs.Positions.{positions, run_positions}
use Rattle.vx_lists.proofs.runs.push_runs.Given as goal

abbrev pub invariant-run : goal.invariant-run
invariant-run l = record {
  places : run_positions l.runs.items ++ positions l.base (word_bits l.left 64) ≡ run_positions l.initial.runs.items ++ positions l.base (word_bits l.initial.left 64);
  some : All (λ run. run.0 < run.1) l.runs.items;
  many : vec_len l.runs + count_ones l.left ≤ vec_len l.initial.runs + count_ones l.initial.left;
  room : vec_capacity l.runs ≡ vec_capacity l.initial.runs;
  within : All (λ p. p < l.len) (positions l.base (word_bits l.left 64));
}

abbrev pub decreases-run : goal.decreases-run
decreases-run l = l.left
