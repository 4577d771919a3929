use Rattle.std.proofs.Common.{◌≡◌, ◌≤◌, length, take}
use Rattle.vx_mask.specs.Positions.{set_of}
use Rattle.vx_mask.proofs.agreement.are_set_positions.Given as goal

abbrev pub invariant-loop-index : goal.invariant-loop-index
invariant-loop-index l = record {
  found : take l.index-index l.indices ≡ set_of (take l.low l.bits.bits);
  within : l.low ≤ length l.bits.bits;
}
