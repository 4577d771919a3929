-- The picks of the numbers before the one at hand.
use Rattle.std.proofs.Common.{◌≡◌, take, false}
use Rattle.vx_positions.specs.Positions.{AllThere, positions_of}
use Rattle.vx_positions.proofs.positions.picks_of.Given as goal

abbrev pub invariant-loop-i : goal.invariant-loop-i
invariant-loop-i g l = record {
  picks : l.picks.picks ≡ positions_of (take l.i (g.N.Numbers.numbers l.numbers));
  bound : l.picks.bound ≡ l.len;
  there : g.N.Numbers.nullable l.numbers ≡ false → AllThere l.picks.picks;
}
