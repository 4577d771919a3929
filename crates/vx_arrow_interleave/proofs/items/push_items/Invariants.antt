-- The items of the rows so far.
use Rattle.std.proofs.Common.{◌-◌}
use Rattle.vx_arrow_image.specs.Image.{part_of}
use Rattle.vx_arrow_interleave.specs.Spots.{spots}
use Rattle.vx_arrow_interleave.proofs.SpotItems.{RowsTo}
use Rattle.vx_arrow_interleave.proofs.items.push_items.Given as goal

abbrev pub invariant-loop-i : goal.invariant-loop-i
invariant-loop-i l = RowsTo l.texts l.size (part_of l.node) l.span.source l.start (l.i - l.start) l.total l.sum (spots l.fn.list.items) (spots l.list.items)
