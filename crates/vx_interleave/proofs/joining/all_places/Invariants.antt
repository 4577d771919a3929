-- The places of the first columns' rows.
use Rattle.std.proofs.Common.{take}
use Rattle.vx_interleave.specs.Sources.{AreAllPlaces, rows_of}
use Rattle.vx_interleave.proofs.joining.all_places.Given as goal

abbrev pub invariant-loop-column : goal.invariant-loop-column
invariant-loop-column l = AreAllPlaces (take l.column (rows_of l.columns)) (rows_of l.columns) l.order.items
