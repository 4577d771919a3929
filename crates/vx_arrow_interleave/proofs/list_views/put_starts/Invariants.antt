-- The starts so far.
use Rattle.std.proofs.Common.{◌≡◌, ◌+◌, ℕ}
use Rattle.vx_arrow_image.specs.Image.{part_of}
use Rattle.vx_arrow_interleave.specs.Given.{view_items_at}
use Rattle.vx_arrow_interleave.proofs.RowRuns.{RunTo, sum_of}
use Rattle.vx_arrow_interleave.proofs.list_views.put_starts.Given as goal

abbrev pub invariant-loop-i : goal.invariant-loop-i
invariant-loop-i l = record {
  run : RunTo l.size (λ (i : ℕ). l.total + sum_of (view_items_at l.size (part_of l.node) l.fn.span.source) l.start i) l.first l.i l.fn.out l.out;
  sum_is : l.sum ≡ l.total + sum_of (view_items_at l.size (part_of l.node) l.fn.span.source) l.start l.i;
}
