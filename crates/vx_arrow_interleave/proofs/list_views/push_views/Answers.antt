-- The items of one row more.
use Rattle.std.proofs.Common.{◌+◌, ap, ap₂, sym, ◌∙◌, arith}
use Rattle.vx_arrow_image.specs.Image.{limit_of, part_of}
use Rattle.vx_arrow_interleave.specs.Given.{view_items_at}
use Rattle.vx_arrow_interleave.specs.Spots.{run_of, spots}
use Rattle.vx_arrow_interleave.proofs.RowRuns.{more_pushed}
use Rattle.vx_arrow_interleave.proofs.SpotLists.{run_len}
use Rattle.vx_arrow_interleave.proofs.ViewRuns.{view_run}
use Rattle.vx_arrow_interleave.proofs.list_views.push_views.Goals as goal

pub loop-j-preserved : goal.loop-j-preserved
loop-j-preserved c =
    let z = c.args.size in
    let p = part_of c.args.node.now in
    let s = c.args.span.source in
    let i = c.args.span.start + c.loop-j.j in
    let from = c.number_at-start.result in
    let len = c.len_at-len.result in
    more_pushed (view_items_at z p s) (limit_of z) c.args.span.start c.loop-j.j c.args.total c.loop-j.sum (c.loop-j.sum + len) (spots c.args.list.now.items) (spots c.loop-j.list.items) (spots c.push_span.new.spans.items) (run_of s from len)
    (view_run z p s i ∙ sym (ap₂ (run_of s) c.number_at-start.ensures c.len_at-len.ensures))
    c.in_ok-push_span.ensures (ap (λ n. c.loop-j.sum + n) (sym (run_len s from len))) (omega (arith, c.if-sum-limit.false, c.limit.ensures)) c.loop-j.invariant
