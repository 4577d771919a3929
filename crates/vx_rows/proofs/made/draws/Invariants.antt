use Rattle.std.proofs.Common.{◌≡◌, ◌-◌, ◌++◌, length}
use Rattle.std.specs.Vec.{vec_capacity}
use Rattle.vx_rows.specs.Made.{draws}
use Rattle.vx_rows.proofs.made.draws.Given as goal

-- the draws so far, and then those from this state on, are all
abbrev pub invariant-loop-i : goal.invariant-loop-i
invariant-loop-i l = record {
  rest : l.draws.items ++ draws (l.count - l.i) l.state ≡ draws l.count l.seed;
  len : length l.draws.items ≡ l.i;
  room : vec_capacity l.draws ≡ l.count;
}
