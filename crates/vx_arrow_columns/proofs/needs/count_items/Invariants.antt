-- The items so far, tested and counted.
use Rattle.vx_arrow_image.specs.Image.{part_of}
use Rattle.vx_arrow_columns.specs.Picks.{picks_of}
use Rattle.vx_arrow_columns.proofs.MeasureSteps.{LenTo}
use Rattle.vx_arrow_columns.proofs.needs.count_items.Given as goal

abbrev pub invariant-loop-k : goal.invariant-loop-k
invariant-loop-k l = LenTo l.size (part_of l.node) (picks_of l.picks.places.now l.picks.valid.now l.picks.add) l.items l.k l.total
