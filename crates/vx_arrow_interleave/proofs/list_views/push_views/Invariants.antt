-- The items of the rows so far.
use Rattle.vx_arrow_image.specs.Image.{limit_of, part_of}
use Rattle.vx_arrow_interleave.specs.Given.{view_items_at}
use Rattle.vx_arrow_interleave.specs.Spots.{spots}
use Rattle.vx_arrow_interleave.proofs.RowRuns.{PushedTo}
use Rattle.vx_arrow_interleave.proofs.list_views.push_views.Given as goal

abbrev pub invariant-loop-j : goal.invariant-loop-j
invariant-loop-j l = PushedTo (view_items_at l.size (part_of l.node) l.fn.span.source) (limit_of l.size) l.first l.j l.total l.sum (spots l.fn.list.items) (spots l.list.items)
