-- All rows were tested, or one doesn't lie where it should.
use Rattle.std.proofs.Common.{sym, arith}
use Rattle.vx_arrow_image.specs.Image.{is_list_view, part_of}
use Rattle.vx_arrow_image.proofs.Stacks.{valid_all, valid_falls}
use Rattle.vx_arrow_image.proofs.fitting.are_list_views.Goals as goal

pub returns-then-not-list_view_fits : goal.returns-then-not-list_view_fits
returns-then-not-list_view_fits c = valid_falls (part_of c.args.node.now) (is_list_view c.args.size (part_of c.args.node.now) c.args.count) c.loop-i.i c.loop-i.auto.i (omega arith) (sym c.if-not-list_view_fits.ensures)

pub returns : goal.returns
returns c = valid_all (part_of c.args.node.now) (is_list_view c.args.size (part_of c.args.node.now) c.args.count) (λ j low high. c.loop-i.invariant j low (omega arith))
