-- The ends so far.
use Rattle.vx_arrow_image.specs.Image.{part_of}
use Rattle.vx_arrow_interleave.proofs.EndRuns.{EndsTo}
use Rattle.vx_arrow_interleave.proofs.writing.put_ends.Given as goal

abbrev pub invariant-loop-i : goal.invariant-loop-i
invariant-loop-i l = EndsTo l.size (part_of l.node) l.fn.span.source l.start l.first l.total l.i l.sum l.fn.out l.out
