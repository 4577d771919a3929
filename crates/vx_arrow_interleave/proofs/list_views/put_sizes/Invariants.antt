-- The sizes so far.
use Rattle.std.proofs.Common.{◌+◌, ℕ, length}
use Rattle.vx_arrow_image.specs.Image.{part_of}
use Rattle.vx_arrow_interleave.specs.Given.{view_items_at}
use Rattle.vx_arrow_interleave.proofs.RowRuns.{RunTo}
use Rattle.vx_arrow_interleave.proofs.list_views.put_sizes.Given as goal

abbrev pub invariant-loop-i : goal.invariant-loop-i
invariant-loop-i l = RunTo l.size (λ (i : ℕ). length (view_items_at l.size (part_of l.node) l.fn.span.source (l.start + i))) l.first l.i l.fn.out l.out
