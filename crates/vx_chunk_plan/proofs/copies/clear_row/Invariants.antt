-- The bytes so far are zeros.
use Rattle.std.proofs.Common.{◌*◌}
use Rattle.vx_chunk_plan.proofs.RowPuts.{AreCleared}
use Rattle.vx_chunk_plan.proofs.copies.clear_row.Given as goal

abbrev pub invariant-loop-i : goal.invariant-loop-i
invariant-loop-i l = AreCleared (l.j * l.width) l.i l.initial.out l.out
