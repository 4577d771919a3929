-- The bits of the picks before the one at hand.
use Rattle.vx_arrow.proofs.Writes.{Marked}
use Rattle.vx_arrow.proofs.written.write_last.Given as goal

abbrev pub invariant-loop-k : goal.invariant-loop-k
invariant-loop-k l = Marked l.picks.picks l.initial.valid l.valid l.k
