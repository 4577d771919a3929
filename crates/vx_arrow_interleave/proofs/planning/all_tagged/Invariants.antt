-- The rows of the spans so far have the id of a child.
use Rattle.std.proofs.Common.{take}
use Rattle.vx_arrow_image.specs.Image.{parts_of}
use Rattle.vx_arrow_interleave.specs.Spots.{spots}
use Rattle.vx_arrow_interleave.proofs.SourceRows.{Each}
use Rattle.vx_arrow_interleave.proofs.SpanTests.{IsTagged}
use Rattle.vx_arrow_interleave.proofs.planning.all_tagged.Given as goal

abbrev pub invariant-loop-k : goal.invariant-loop-k
invariant-loop-k l = Each (IsTagged (parts_of l.sources)) (spots (take l.k l.rows))
