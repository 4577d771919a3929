use Rattle.vx_mask.proofs.MadeBits.{IsMadeTo}
use Rattle.vx_mask.proofs.positions.bits_at.Given as goal

abbrev pub invariant-loop-index : goal.invariant-loop-index
invariant-loop-index l = IsMadeTo l.bits l.indices l.len l.index-index
