-- The three tests, in order.
use Rattle.std.proofs.Common.{arith}
use Rattle.vx_arrow_image.specs.Image.{part_of}
use Rattle.vx_arrow_image.proofs.Stacks.{cut_last, cut_not_small, cut_not_up}
use Rattle.vx_arrow_image.proofs.fitting.is_cut.Goals as goal

pub returns-then-cut : goal.returns-then-cut
returns-then-cut c = cut_not_up c.args.size (part_of c.args.node.now) c.args.count c.args.i c.cut_at-cut.result.start c.cut_at-cut.result.end c.cut_at-cut.ensures.start c.cut_at-cut.ensures.end c.if-cut.true

pub returns-then-cut-limit : goal.returns-then-cut-limit
returns-then-cut-limit c = cut_not_small c.args.size (part_of c.args.node.now) c.args.count c.args.i c.cut_at-cut.result.end c.cut_at-cut.ensures.end (omega (arith, c.limit.ensures, c.if-cut-limit.true))

pub returns : goal.returns
returns c = cut_last c.args.size (part_of c.args.node.now) c.args.count c.args.i c.cut_at-cut.result.start c.cut_at-cut.result.end c.cut_at-cut.ensures.start c.cut_at-cut.ensures.end c.if-cut.false (omega (arith, c.limit.ensures, c.if-cut-limit.false))
