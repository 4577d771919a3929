-- The picks before the one at hand.
use Rattle.std.proofs.Common.{◌≡◌, slice_range}
use Rattle.vx_steps.specs.Compose.{bound_of, picks_in}
use Rattle.vx_steps.proofs.composed.Composed.part.Given as goal

abbrev pub invariant-loop-i : goal.invariant-loop-i
invariant-loop-i l = record {
  picks : l.part.picks ≡ slice_range (picks_in l.self) l.start l.i;
  bound : l.part.bound ≡ bound_of l.self;
}
