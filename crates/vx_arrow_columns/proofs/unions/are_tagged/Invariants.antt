-- The rows so far.
use Rattle.vx_arrow_image.specs.Image.{has_child, part_of}
use Rattle.vx_arrow_columns.specs.Picks.{picks_of}
use Rattle.vx_arrow_columns.proofs.MeasureSteps.{AllTo}
use Rattle.vx_arrow_columns.proofs.unions.are_tagged.Given as goal

abbrev pub invariant-loop-k : goal.invariant-loop-k
invariant-loop-k l = AllTo (part_of l.node) (picks_of l.picks.places.now l.picks.valid.now l.picks.add) (has_child (part_of l.node)) l.k
