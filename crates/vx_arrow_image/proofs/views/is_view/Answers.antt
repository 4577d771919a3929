-- The tests, in order.
use Rattle.std.proofs.Common.{◌∙◌, refl, arith}
use Rattle.vx_arrow_image.specs.Image.{part_of, view_buffer, view_start}
use Rattle.vx_arrow_image.proofs.ViewTests.{view_astray, view_far, view_inline, view_is, view_last, view_wide}
use Rattle.vx_arrow_image.proofs.views.is_view.Goals as goal

pub returns-then-len : goal.returns-then-len
returns-then-len c =
    let p = part_of c.args.node.now in
    let b = view_buffer p c.args.i in
    let s = view_start p c.args.i in
    view_wide c.args.lens.now c.view_len-len.result b s (omega arith) ∙ view_is p c.args.lens.now c.args.i c.view_len-len.result b s c.view_len-len.ensures refl refl

pub returns-then-len-le12 : goal.returns-then-len-le12
returns-then-len-le12 c =
    let p = part_of c.args.node.now in
    let b = view_buffer p c.args.i in
    let s = view_start p c.args.i in
    view_inline c.args.lens.now c.view_len-len.result b s (omega arith) (omega arith) ∙ view_is p c.args.lens.now c.args.i c.view_len-len.result b s c.view_len-len.ensures refl refl

pub returns-then-buffer-lens : goal.returns-then-buffer-lens
returns-then-buffer-lens c =
    let p = part_of c.args.node.now in
    let s = view_start p c.args.i in
    view_astray c.args.lens.now c.view_len-len.result c.view_buffer-buffer.result s (omega arith) (omega arith) (omega arith)
    ∙ view_is p c.args.lens.now c.args.i c.view_len-len.result c.view_buffer-buffer.result s c.view_len-len.ensures c.view_buffer-buffer.ensures refl

pub returns-then-start : goal.returns-then-start
returns-then-start c =
    view_far c.args.lens.now c.view_len-len.result c.view_buffer-buffer.result c.view_start-start.result (omega arith) (omega arith) (omega arith) (omega arith)
    ∙ view_is (part_of c.args.node.now) c.args.lens.now c.args.i c.view_len-len.result c.view_buffer-buffer.result c.view_start-start.result c.view_len-len.ensures c.view_buffer-buffer.ensures c.view_start-start.ensures

pub returns : goal.returns
returns c =
    view_last c.args.lens.now c.view_len-len.result c.view_buffer-buffer.result c.view_start-start.result (omega arith) (omega arith) (omega arith) (omega arith)
    ∙ view_is (part_of c.args.node.now) c.args.lens.now c.args.i c.view_len-len.result c.view_buffer-buffer.result c.view_start-start.result c.view_len-len.ensures c.view_buffer-buffer.ensures c.view_start-start.ensures
