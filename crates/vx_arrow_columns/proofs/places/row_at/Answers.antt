-- The sums fit, since the rows have places.
use Rattle.std.proofs.Common.{arith}
use Rattle.vx_arrow_image.specs.Image.{part_of}
use Rattle.vx_arrow_columns.proofs.PickReads.{placed_end}
use Rattle.vx_arrow_columns.proofs.places.row_at.Goals as goal

pub overflow_add-result : goal.overflow_add-result
overflow_add-result c = omega (arith, placed_end (part_of c.args.node.now) c.requires.placed, c.requires.below)

pub overflow_add-result-2 : goal.overflow_add-result-2
overflow_add-result-2 c = omega (arith, placed_end (part_of c.args.node.now) c.requires.placed, c.requires.below)
