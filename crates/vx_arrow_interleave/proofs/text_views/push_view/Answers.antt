-- The list of the view's buffer has one run more.
use Rattle.std.proofs.Common.{◌<◌, length, arith}
use Rattle.vx_arrow_image.specs.Image.{part_of}
use Rattle.vx_arrow_interleave.proofs.ShownViews.{view_pushed}
use Rattle.vx_arrow_interleave.proofs.text_views.push_view.Goals as goal

pub returns-clause-lists : goal.returns-clause-lists
returns-clause-lists c =
    let inside : c.number_at-buffer.result < length c.args.lists.now.items = omega (arith, c.if-buffer-len.false, c.len.ensures) in
    view_pushed c.args.lists.now.items (part_of c.args.node.now) c.args.source c.args.i c.number_at-buffer.result c.number_at-len.result c.number_at-start.result c.push_span.new.spans c.index_mut.result.now
    c.requires.there (omega (arith, c.if-len-le12.false)) c.number_at-len.ensures c.number_at-buffer.ensures c.number_at-start.ensures inside c.index_mut.ensures.value c.in_ok-push_span.ensures
