-- One size more.
use Rattle.std.proofs.Common.{◌+◌, ℕ, length, ◌∙◌, sym, arith}
use Rattle.vx_arrow_image.specs.Image.{part_of}
use Rattle.vx_arrow_interleave.specs.Given.{view_items_at}
use Rattle.vx_arrow_interleave.proofs.RowRuns.{more_run, one_within}
use Rattle.vx_arrow_interleave.proofs.ViewRuns.{view_len}
use Rattle.vx_arrow_interleave.proofs.list_views.put_sizes.Goals as goal

pub put_offset-requires-clause-small : goal.put_offset-requires-clause-small
put_offset-requires-clause-small c =
    let z = c.args.size in
    let p = part_of c.args.node.now in
    let s = c.args.span.source in
    omega (arith, one_within (view_items_at z p s) c.args.span.start c.loop-i.i c.args.span.len (omega arith), view_len z p s (c.args.span.start + c.loop-i.i), c.len_at.ensures, c.requires.counted)

pub loop-i-preserved : goal.loop-i-preserved
loop-i-preserved c =
    let z = c.args.size in
    let p = part_of c.args.node.now in
    let s = c.args.span.source in
    let a = c.args.span.start in
    let i = c.loop-i.i in
    more_run z (λ (i : ℕ). length (view_items_at z p s (a + i))) c.args.first i c.len_at.result c.args.out.now c.loop-i.out c.put_offset.new.offsets (c.len_at.ensures ∙ sym (view_len z p s (a + i))) c.put_offset.ensures c.loop-i.invariant
