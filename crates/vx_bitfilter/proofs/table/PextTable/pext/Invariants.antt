use Rattle.std.proofs.Common.{◌*◌}
use Rattle.vx_bitfilter.proofs.PackedBytes.{IsPacked}
use Rattle.vx_bitfilter.proofs.table.PextTable.pext.Given as goal

abbrev pub invariant-loop-k : goal.invariant-loop-k
invariant-loop-k l = IsPacked l.src l.mask l.packed l.held (8 * l.k)
