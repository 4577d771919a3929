-- The spans so far.
use Rattle.std.proofs.Common.{◌≡◌, ◌++◌, replicate}
use Rattle.vx_arrow_interleave.proofs.planning.push_below.Given as goal

abbrev pub invariant-loop : goal.invariant-loop
invariant-loop l = l.stack.items ≡ l.fn.stack.items ++ replicate l.counter l.spans
