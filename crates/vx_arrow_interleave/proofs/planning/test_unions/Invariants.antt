-- The nodes so far have the same ids.
use Rattle.vx_arrow_image.specs.Image.{parts_of}
use Rattle.vx_arrow_interleave.proofs.SpanTests.{SameTo}
use Rattle.vx_arrow_interleave.proofs.planning.test_unions.Given as goal

abbrev pub invariant-loop-s : goal.invariant-loop-s
invariant-loop-s l = SameTo (parts_of l.sources) l.s
