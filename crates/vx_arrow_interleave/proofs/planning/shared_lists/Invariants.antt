-- The lists so far.
use Rattle.std.proofs.Common.{◌≡◌, take}
use Rattle.vx_arrow_interleave.specs.TextViews.{lists_in}
use Rattle.vx_arrow_interleave.proofs.planning.shared_lists.Given as goal

abbrev pub invariant-loop-j : goal.invariant-loop-j
invariant-loop-j l = lists_in l.shared.items ≡ take l.j (lists_in l.lists.items)
