-- The places so far.
use Rattle.vx_arrow_image.specs.Image.{part_of}
use Rattle.vx_arrow_columns.specs.Measured.{AreItemPlaces}
use Rattle.vx_arrow_columns.specs.Picks.{picks_of}
use Rattle.vx_arrow_columns.proofs.fixed_lists.item_places.Given as goal

abbrev pub invariant-loop-m : goal.invariant-loop-m
invariant-loop-m l = AreItemPlaces (part_of l.node) (picks_of l.picks.places.now l.picks.valid.now l.picks.add) l.m l.places.items
