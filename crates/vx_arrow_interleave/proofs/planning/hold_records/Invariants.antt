-- The records of the rows of the spans so far are there.
use Rattle.std.proofs.Common.{take}
use Rattle.vx_arrow_image.specs.Image.{parts_of}
use Rattle.vx_arrow_interleave.specs.Spots.{spots}
use Rattle.vx_arrow_interleave.proofs.SpanTests.{HoldTo}
use Rattle.vx_arrow_interleave.proofs.planning.hold_records.Given as goal

abbrev pub invariant-loop-k : goal.invariant-loop-k
invariant-loop-k l = HoldTo l.width (parts_of l.sources) (spots (take l.k l.rows))
