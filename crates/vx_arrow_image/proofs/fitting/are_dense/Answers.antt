-- All rows were tested, or one is in no child.
use Rattle.std.proofs.Common.{arith, sym}
use Rattle.vx_arrow_image.specs.Image.{is_dense, part_of}
use Rattle.vx_arrow_image.proofs.CutRows.{range_all}
use Rattle.vx_arrow_image.proofs.Stacks.{range_falls}
use Rattle.vx_arrow_image.proofs.fitting.are_dense.Goals as goal

pub returns-then-not-is_dense : goal.returns-then-not-is_dense
returns-then-not-is_dense c = range_falls (is_dense (part_of c.args.node.now) c.args.lens.now) c.args.node.now.offset c.args.node.now.len c.loop-i.i c.loop-i.auto.i (omega arith) (sym c.if-not-is_dense.ensures)

pub returns : goal.returns
returns c = sym (range_all (is_dense (part_of c.args.node.now) c.args.lens.now) c.args.node.now.offset c.args.node.now.len (λ j low high. c.loop-i.invariant j low (omega arith)))
