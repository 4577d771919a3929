-- All rows were tested, or one lies elsewhere.
use Rattle.std.proofs.Common.{arith, sym}
use Rattle.vx_arrow_image.specs.Image.{is_list_view, part_of}
use Rattle.vx_arrow_image.proofs.CutRows.{range_all}
use Rattle.vx_arrow_image.proofs.Stacks.{range_falls}
use Rattle.vx_arrow_strict.proofs.lists.all_lists.Goals as goal

pub returns-then-not-is_list_view : goal.returns-then-not-is_list_view
returns-then-not-is_list_view c = range_falls (is_list_view c.args.size (part_of c.args.node.now) c.args.count) c.args.node.now.offset c.args.node.now.len c.loop-i.i c.loop-i.auto.i (omega arith) (sym c.if-not-is_list_view.ensures)

pub returns : goal.returns
returns c = sym (range_all (is_list_view c.args.size (part_of c.args.node.now) c.args.count) c.args.node.now.offset c.args.node.now.len (λ j low high. c.loop-i.invariant j low (omega arith)))
