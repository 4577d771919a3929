-- What is pushed, and what is left, are the lists.
use Rattle.std.proofs.Common.{◌≡◌, ◌+◌, ◌++◌, length}
use Rattle.std.specs.Prelude.{reverse}
use Rattle.vx_arrow_interleave.proofs.planning.push_split.Given as goal

abbrev pub invariant-loop : goal.invariant-loop
invariant-loop l =
    (l.stack.items ++ reverse l.left.items ≡ l.initial.stack.items ++ reverse l.initial.left.items)
    × (length l.left.items + l.counter ≡ length l.initial.left.items)
