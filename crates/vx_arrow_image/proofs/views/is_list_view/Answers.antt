-- The tests, in order.
use Rattle.std.proofs.Common.{◌∙◌, refl, arith}
use Rattle.vx_arrow_image.specs.Image.{offset_at, part_of}
use Rattle.vx_arrow_image.proofs.ViewTests.{list_view_far, list_view_is, list_view_last, list_view_wide}
use Rattle.vx_arrow_image.proofs.views.is_list_view.Goals as goal

pub returns-then-start-limit : goal.returns-then-start-limit
returns-then-start-limit c =
    let p = part_of c.args.node.now in
    let n = offset_at c.args.size p.sizes c.args.i in
    list_view_far c.args.size c.args.count c.offset-start.result n (omega (arith, c.limit.ensures)) ∙ list_view_is c.args.size p c.args.count c.args.i c.offset-start.result n c.offset-start.ensures refl

pub returns-then-len-limit : goal.returns-then-len-limit
returns-then-len-limit c =
    list_view_wide c.args.size c.args.count c.offset-start.result c.offset-len.result (omega (arith, c.limit.ensures)) (omega arith)
    ∙ list_view_is c.args.size (part_of c.args.node.now) c.args.count c.args.i c.offset-start.result c.offset-len.result c.offset-start.ensures c.offset-len.ensures

pub returns : goal.returns
returns c =
    list_view_last c.args.size c.args.count c.offset-start.result c.offset-len.result (omega (arith, c.limit.ensures)) (omega arith)
    ∙ list_view_is c.args.size (part_of c.args.node.now) c.args.count c.args.i c.offset-start.result c.offset-len.result c.offset-start.ensures c.offset-len.ensures
