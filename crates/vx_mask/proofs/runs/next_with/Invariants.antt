use Rattle.std.proofs.Common.{◌*◌, not}
use Rattle.vx_mask.specs.Positions.{AllBits}
use Rattle.vx_mask.proofs.WordPlaces.{Keeps}
use Rattle.vx_mask.proofs.runs.next_with.Given as goal

abbrev pub invariant-loop-w : goal.invariant-loop-w
invariant-loop-w l = record {
  keeps : Keeps l.from l.w l.keep;
  passed : AllBits l.bits.bits l.from (64 * l.w) (not l.want);
}
