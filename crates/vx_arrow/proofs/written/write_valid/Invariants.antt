-- The bits of whole bytes of picks.
use Rattle.std.proofs.Common.{◌*◌}
use Rattle.vx_arrow.proofs.Writes.{Marked}
use Rattle.vx_arrow.proofs.written.write_valid.Given as goal

abbrev pub invariant-loop-b : goal.invariant-loop-b
invariant-loop-b l = Marked l.picks.picks l.initial.valid l.valid (8 * l.b)
