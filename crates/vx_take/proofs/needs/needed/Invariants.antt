use Rattle.vx_take.proofs.NeededBits.{AreMarkedTo}
use Rattle.vx_take.proofs.needs.needed.Given as goal

abbrev pub invariant-loop-place : goal.invariant-loop-place
invariant-loop-place l = AreMarkedTo l.bits l.len l.place-items l.place-index
