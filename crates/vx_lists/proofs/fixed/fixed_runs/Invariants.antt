use Rattle.std.proofs.Common.{◌≡◌, ◌+◌, ◌*◌, ◌≤◌, ◌++◌, [], ◌∷◌, map, take}
use Rattle.std.specs.List.{All}
use Rattle.std.specs.Prelude.{vec_len}
use Rattle.std.specs.Vec.{vec_capacity}
use Rattle.vx_take.specs.Picks.{run_places}
use Rattle.vx_lists.specs.Fixed.{fixed_run}
use Rattle.vx_lists.proofs.fixed.fixed_runs.Given as goal

abbrev pub invariant-loop-k : goal.invariant-loop-k
invariant-loop-k l = record {
  places : run_places (l.runs.items ++ l.last ∷ []) ≡ run_places (map (fixed_run l.size) (take l.k l.picks.picks));
  inside : All (λ run. run.0 + run.1 ≤ l.rows * l.size) (l.runs.items ++ l.last ∷ []);
  count : vec_len l.runs ≤ l.k;
  room : vec_capacity l.runs ≡ l.len + 1;
}
