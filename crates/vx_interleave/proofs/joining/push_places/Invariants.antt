-- The places so far.
use Rattle.std.proofs.Common.{◌≡◌, ◌++◌}
use Rattle.vx_interleave.specs.Places.{places_of}
use Rattle.vx_interleave.proofs.joining.push_places.Given as goal

abbrev pub invariant-loop-row : goal.invariant-loop-row
invariant-loop-row l = l.order.items ≡ l.initial.order.items ++ places_of l.column l.row
