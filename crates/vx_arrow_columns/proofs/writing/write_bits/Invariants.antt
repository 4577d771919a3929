-- The bytes so far.
use Rattle.std.proofs.Common.{◌≡◌, ℕ, ◌<◌, ◌*◌}
use Rattle.vx_arrow_image.specs.Image.{bit_of, part_of}
use Rattle.vx_arrow_columns.specs.Picks.{pick_at, place_of}
use Rattle.vx_arrow_columns.specs.Taken.{bit_in}
use Rattle.vx_arrow_columns.proofs.writing.write_bits.Given as goal

abbrev pub invariant-loop-b : goal.invariant-loop-b
invariant-loop-b l = (k : ℕ) → k < 8 * l.b → bit_of l.out k ≡ bit_in l.node.values.now (place_of (part_of l.node) (pick_at l.picks.places.now l.picks.valid.now l.picks.add k))
