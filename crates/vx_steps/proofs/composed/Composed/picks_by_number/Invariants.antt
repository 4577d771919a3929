-- The picks of the numbers before the one at hand.
use Rattle.std.proofs.Common.{◌≡◌, take}
use Rattle.vx_steps.specs.Compose.{bound_of, picks_by_number, picks_in}
use Rattle.vx_steps.proofs.composed.Composed.picks_by_number.Given as goal

abbrev pub invariant-loop-i : goal.invariant-loop-i
invariant-loop-i l = record {
  picks : l.named.picks ≡ picks_by_number (picks_in l.self) (take l.i-index l.numbers);
  bound : l.named.bound ≡ bound_of l.self;
}
