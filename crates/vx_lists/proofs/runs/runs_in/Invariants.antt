use Rattle.std.proofs.Common.{◌≡◌, ◌*◌, ◌<◌, ◌≤◌, length, take, vec_len}
use Rattle.std.specs.List.{All}
use Rattle.std.specs.Vec.{vec_capacity}
use Rattle.vx_mask.specs.Positions.{run_positions, set_of}
use Rattle.vx_lists.proofs.runs.runs_in.Given as goal

abbrev pub invariant-loop-w : goal.invariant-loop-w
invariant-loop-w l = record {
  found : run_positions l.runs.items ≡ set_of (take (64 * l.w) l.bits.bits);
  some : All (λ run. run.0 < run.1) l.runs.items;
  many : vec_len l.runs ≤ length (run_positions l.runs.items);
  room : vec_capacity l.runs ≡ l.count;
}
