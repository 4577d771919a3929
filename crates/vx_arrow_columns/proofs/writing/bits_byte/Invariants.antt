-- The bits so far.
use Rattle.vx_arrow_image.specs.Image.{part_of}
use Rattle.vx_arrow_columns.specs.Picks.{pick_at, place_of}
use Rattle.vx_arrow_columns.specs.Taken.{IsByteOf, bit_in}
use Rattle.vx_arrow_columns.proofs.writing.bits_byte.Given as goal

abbrev pub invariant-loop-j : goal.invariant-loop-j
invariant-loop-j l = IsByteOf (λ k. bit_in l.node.values.now (place_of (part_of l.node) (pick_at l.picks.places.now l.picks.valid.now l.picks.add k))) l.first l.j l.byte
