-- The rows so far.
use Rattle.vx_arrow_image.specs.Image.{parts_of}
use Rattle.vx_arrow_interleave.proofs.RowRuns.{NumbersTo}
use Rattle.vx_arrow_interleave.proofs.ViewRuns.{size_by}
use Rattle.vx_arrow_interleave.proofs.list_views.write_sizes.Given as goal

abbrev pub invariant-loop-k : goal.invariant-loop-k
invariant-loop-k l = NumbersTo l.size (size_by l.size (parts_of l.sources) l.places) l.places l.k l.first l.out
