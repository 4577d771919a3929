use Rattle.std.proofs.Common.{◌≡◌, drop}
use Rattle.vx_mask.specs.Positions.{ascending}
use Rattle.vx_mask.proofs.positions.ascend.Given as goal

abbrev pub invariant-loop-index : goal.invariant-loop-index
invariant-loop-index l = ascending l.low l.len (drop l.index-index l.indices) ≡ ascending 0 l.len l.indices
