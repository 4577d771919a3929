use Rattle.vx_filter.proofs.Copies.{IsCompacted}
use Rattle.vx_filter.proofs.compact.compact.Given as goal

abbrev pub invariant-loop-w : goal.invariant-loop-w
invariant-loop-w g l = IsCompacted l.src l.initial.dst l.dst l.words l.kept l.w
