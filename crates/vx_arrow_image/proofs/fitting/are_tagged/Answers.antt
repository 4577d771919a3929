-- All rows were tested, or one has no child's id.
use Rattle.std.proofs.Common.{arith, sym}
use Rattle.vx_arrow_image.specs.Image.{has_child, part_of}
use Rattle.vx_arrow_image.proofs.CutRows.{range_all}
use Rattle.vx_arrow_image.proofs.Stacks.{range_falls}
use Rattle.vx_arrow_image.proofs.fitting.are_tagged.Goals as goal

pub returns-then-not-has_child : goal.returns-then-not-has_child
returns-then-not-has_child c = range_falls (has_child (part_of c.args.node.now)) c.args.node.now.offset c.args.node.now.len c.loop-i.i c.loop-i.auto.i (omega arith) (sym c.if-not-has_child.ensures)

pub returns : goal.returns
returns c = sym (range_all (has_child (part_of c.args.node.now)) c.args.node.now.offset c.args.node.now.len (λ j low high. c.loop-i.invariant j low (omega arith)))
