use Rattle.std.proofs.Common.{◌≤◌}
use Rattle.rows_of_kernels.proofs.bytes.in_their_places.Given as goal

abbrev pub invariant-loop-k : goal.invariant-loop-k
invariant-loop-k l = l.count ≤ l.k
