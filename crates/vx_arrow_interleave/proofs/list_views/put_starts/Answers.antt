-- One start more.
use Rattle.std.proofs.Common.{◌+◌, ℕ, arith}
use Rattle.vx_arrow_image.specs.Image.{part_of}
use Rattle.vx_arrow_columns.proofs.MeasureSteps.{limit_few}
use Rattle.vx_arrow_interleave.specs.Given.{view_items_at}
use Rattle.vx_arrow_interleave.proofs.RowRuns.{more_run, one_within, sum_more, sum_of}
use Rattle.vx_arrow_interleave.proofs.ViewRuns.{view_len}
use Rattle.vx_arrow_interleave.proofs.list_views.put_starts.Goals as goal

pub put_offset-requires-clause-small : goal.put_offset-requires-clause-small
put_offset-requires-clause-small c =
    let g = view_items_at c.args.size (part_of c.args.node.now) c.args.span.source in
    omega (arith, one_within g c.args.span.start c.loop-i.i c.args.span.len (omega arith), c.loop-i.invariant.sum_is, c.requires.counted)

pub overflow_add-sum : goal.overflow_add-sum
overflow_add-sum c =
    let z = c.args.size in
    let p = part_of c.args.node.now in
    let s = c.args.span.source in
    let i = c.loop-i.i in
    omega (arith, one_within (view_items_at z p s) c.args.span.start i c.args.span.len (omega arith), view_len z p s (c.args.span.start + i), c.len_at-sum.ensures, c.loop-i.invariant.sum_is, c.requires.counted, limit_few z)

pub loop-i-preserved : goal.loop-i-preserved
loop-i-preserved c =
    let z = c.args.size in
    let p = part_of c.args.node.now in
    let s = c.args.span.source in
    let a = c.args.span.start in
    let i = c.loop-i.i in
    let g = view_items_at z p s in
    record {
      run = more_run z (λ (i : ℕ). c.args.total + sum_of g a i) c.args.first i c.loop-i.sum c.args.out.now c.loop-i.out c.put_offset.new.offsets c.loop-i.invariant.sum_is c.put_offset.ensures c.loop-i.invariant.run;
      sum_is = omega (arith, c.loop-i.invariant.sum_is, sum_more g a i, view_len z p s (a + i), c.len_at-sum.ensures);
    }
