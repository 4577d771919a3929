-- The picks that the later ones before the one at hand name.
use Rattle.std.proofs.Common.{◌≡◌, take, None}
use Rattle.vx_take.specs.Picks.{at}
use Rattle.vx_steps.specs.Compose.{bound_of, picks_in}
use Rattle.vx_steps.proofs.composed.Composed.each_looked_up.Given as goal

abbrev pub invariant-loop-i : goal.invariant-loop-i
invariant-loop-i l = record {
  picks : l.found.picks ≡ at None (picks_in l.self) (take l.i l.later.picks);
  bound : l.found.bound ≡ bound_of l.self;
}
