-- The jobs so far.
use Rattle.std.proofs.Common.{◌≡◌, ◌+◌, length}
use Rattle.vx_arrow_columns.proofs.Plans.{SplitsTo}
use Rattle.vx_arrow_columns.proofs.plan.push_splits.Given as goal

abbrev pub invariant-loop-popped : goal.invariant-loop-popped
invariant-loop-popped l = (length l.items.items + l.popped ≡ length l.fn.items.items) × SplitsTo l.fn.items.items l.items.items l.fn.lists.items l.lists.items l.fn.stack.items l.stack.items
