-- The children so far.
use Rattle.vx_arrow_image.specs.Image.{part_of}
use Rattle.vx_arrow_columns.specs.Picks.{picking_of}
use Rattle.vx_arrow_columns.specs.Measured.{AreDenseItems}
use Rattle.vx_arrow_columns.proofs.dense.child_items.Given as goal

abbrev pub invariant-loop-j : goal.invariant-loop-j
invariant-loop-j l = AreDenseItems (part_of l.node) (picking_of l.picks.places.now l.picks.valid.now l.picks.add) l.j l.all.items
