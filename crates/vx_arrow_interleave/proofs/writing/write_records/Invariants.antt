-- The rows so far.
use Rattle.vx_arrow_image.specs.Image.{parts_of}
use Rattle.vx_arrow_interleave.proofs.RecordRuns.{RecordsTo}
use Rattle.vx_arrow_interleave.proofs.writing.write_records.Given as goal

abbrev pub invariant-loop-k : goal.invariant-loop-k
invariant-loop-k l = RecordsTo l.width (parts_of l.sources) l.places l.k l.at l.out
