-- The rows so far.
use Rattle.vx_arrow_image.specs.Image.{parts_of}
use Rattle.vx_arrow_interleave.proofs.EndRuns.{OffsetsTo}
use Rattle.vx_arrow_interleave.proofs.writing.write_offsets.Given as goal

abbrev pub invariant-loop-k : goal.invariant-loop-k
invariant-loop-k l = OffsetsTo l.size (parts_of l.sources) l.places l.k l.first l.total l.out
