-- All rows were tested, or one is not cut as it should be.
use Rattle.std.proofs.Common.{sym, arith}
use Rattle.vx_arrow_image.specs.Image.{part_of}
use Rattle.vx_arrow_image.proofs.Stacks.{cut_all, cut_falls, cut_short}
use Rattle.vx_arrow_image.proofs.fitting.are_cut.Goals as goal

pub returns-then-not-holds_offsets : goal.returns-then-not-holds_offsets
returns-then-not-holds_offsets c = cut_short c.args.size (part_of c.args.node.now) c.args.count (sym c.if-not-holds_offsets.ensures)

pub returns-then-not-is_cut : goal.returns-then-not-is_cut
returns-then-not-is_cut c = cut_falls c.args.size (part_of c.args.node.now) c.args.count c.loop-i.i c.loop-i.auto.i (omega arith) (sym c.if-not-is_cut.ensures)

pub returns : goal.returns
returns c = cut_all c.args.size (part_of c.args.node.now) c.args.count (sym c.if-not-holds_offsets.ensures) (λ j low high. c.loop-i.invariant j low (omega arith))
