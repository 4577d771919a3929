-- The rows so far.
use Rattle.vx_arrow_image.specs.Image.{parts_of}
use Rattle.vx_arrow_interleave.proofs.ViewRuns.{StartsTo}
use Rattle.vx_arrow_interleave.proofs.list_views.write_starts.Given as goal

abbrev pub invariant-loop-k : goal.invariant-loop-k
invariant-loop-k l = StartsTo l.size (parts_of l.sources) l.places l.k l.first l.total l.out
