-- The offsets so far.
use Rattle.vx_arrow_image.specs.Image.{part_of}
use Rattle.vx_arrow_columns.specs.Picks.{picks_of}
use Rattle.vx_arrow_columns.proofs.Steps.{OffsetsTo}
use Rattle.vx_arrow_columns.proofs.writing.write_ends.Given as goal

abbrev pub invariant-loop-k : goal.invariant-loop-k
invariant-loop-k l = OffsetsTo l.size (part_of l.node) (picks_of l.picks.places.now l.picks.valid.now l.picks.add) l.k l.at l.out
