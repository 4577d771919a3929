-- The items of the lists so far, tested and counted.
use Rattle.vx_arrow_image.specs.Image.{part_of}
use Rattle.vx_arrow_columns.specs.Picks.{picks_of}
use Rattle.vx_arrow_columns.proofs.MeasureSteps.{ItemsTo}
use Rattle.vx_arrow_columns.proofs.needs.list_places.Given as goal

abbrev pub invariant-loop-k : goal.invariant-loop-k
invariant-loop-k l = ItemsTo l.size (part_of l.node) (picks_of l.picks.places.now l.picks.valid.now l.picks.add) l.items l.k l.total l.places.items l.last
