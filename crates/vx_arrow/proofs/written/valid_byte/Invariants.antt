-- The bits so far.
use Rattle.vx_arrow.specs.Written.{IsByteOf}
use Rattle.vx_arrow.proofs.written.valid_byte.Given as goal

abbrev pub invariant-loop-j : goal.invariant-loop-j
invariant-loop-j l = IsByteOf l.picks.picks l.first l.j l.byte
