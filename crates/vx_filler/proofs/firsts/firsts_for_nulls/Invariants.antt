-- The picks before the one at hand.
use Rattle.std.proofs.Common.{◌≡◌, take}
use Rattle.vx_model.specs.Columns.{firsts_for_nulls}
use Rattle.vx_filler.proofs.firsts.firsts_for_nulls.Given as goal

abbrev pub invariant-loop-i : goal.invariant-loop-i
invariant-loop-i l = record {
  picks : l.firsts.picks ≡ firsts_for_nulls (take l.i l.picks.picks);
  bound : l.firsts.bound ≡ l.picks.bound;
}
