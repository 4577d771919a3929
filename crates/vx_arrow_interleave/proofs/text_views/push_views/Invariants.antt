-- What the rows so far show.
use Rattle.std.proofs.Common.{◌-◌}
use Rattle.vx_arrow_image.specs.Image.{part_of}
use Rattle.vx_arrow_interleave.proofs.ShownViews.{ShownTo}
use Rattle.vx_arrow_interleave.proofs.text_views.push_views.Given as goal

abbrev pub invariant-loop-i : goal.invariant-loop-i
invariant-loop-i l = ShownTo (part_of l.node) l.span.source l.start (l.i - l.start) l.fn.lists.items l.lists.items
