-- The bits so far.
use Rattle.std.proofs.Common.{◌≡◌, ◌/◌, ◌+◌, length}
use Rattle.vx_arrow_image.specs.Image.{part_of}
use Rattle.vx_arrow_columns.specs.Picks.{picks_of}
use Rattle.vx_arrow_columns.proofs.DenseItems.{ShownTo}
use Rattle.vx_arrow_columns.proofs.dense.child_valid.Given as goal

abbrev pub invariant-loop-k : goal.invariant-loop-k
invariant-loop-k l = (length l.bits.items ≡ length l.picks.places.now / 8 + 1) × ShownTo (part_of l.node) (picks_of l.picks.places.now l.picks.valid.now l.picks.add) l.j l.k l.count l.bits.items
