-- One end more.
use Rattle.std.proofs.Common.{◌≡◌, ◌+◌, length, sym, arith}
use Rattle.vx_arrow_image.specs.Image.{part_of}
use Rattle.vx_arrow_columns.proofs.MeasureSteps.{limit_few}
use Rattle.vx_arrow_interleave.specs.Given.{items_at}
use Rattle.vx_arrow_interleave.proofs.EndRuns.{count_more, count_none, count_there, count_within, more_ends, no_ends}
use Rattle.vx_arrow_interleave.proofs.writing.put_ends.Goals as goal
use Rattle.vx_arrow_interleave.proofs.writing.put_ends.Goals.{then-is_there, else-is_there}

pub loop-i-init : goal.loop-i-init
loop-i-init c = no_ends c.args.size (part_of c.args.node.now) c.args.span.source c.args.span.start c.args.first c.args.total c.args.out.now c.requires.total

pub overflow_add-sum : goal.overflow_add-sum
overflow_add-sum c =
    let z = c.args.size in
    let p = part_of c.args.node.now in
    let s = c.args.span in
    let i = c.loop-i.i in
    let own = count_there z p s.source (s.start + i) (sym c.if-is_there.ensures) in
    omega (arith, own, count_more z p s.source s.start i, count_within z p s.source s.start (i + 1) s.len (omega arith), c.loop-i.invariant.sum_is, c.requires.counted, limit_few z, c.cut_at-cut.ensures.start, c.cut_at-cut.ensures.end)

pub put_offset-requires-clause-small : goal.put_offset-requires-clause-small
put_offset-requires-clause-small c =
    let z = c.args.size in
    let p = part_of c.args.node.now in
    let s = c.args.span in
    let i = c.loop-i.i in
    let step : c.if-is_there.sum ≡ c.loop-i.sum + length (items_at z p s.source (s.start + i)) = elim c.if-is_there.branch [
      | then-is_there w ↦ omega (arith, w.sum-is, w.cut_at-cut.ensures.start, w.cut_at-cut.ensures.end, count_there z p s.source (s.start + i) (sym w.if-is_there.ensures))
      | else-is_there w ↦ omega (arith, w.sum-is, count_none z p s.source (s.start + i) (sym w.if-is_there.ensures))
    ] in
    omega (arith, step, count_more z p s.source s.start i, count_within z p s.source s.start (i + 1) s.len (omega arith), c.loop-i.invariant.sum_is, c.requires.counted)

pub loop-i-preserved : goal.loop-i-preserved
loop-i-preserved c =
    let z = c.args.size in
    let p = part_of c.args.node.now in
    let s = c.args.span in
    let i = c.loop-i.i in
    let step : c.if-is_there.sum ≡ c.loop-i.sum + length (items_at z p s.source (s.start + i)) = elim c.if-is_there.branch [
      | then-is_there w ↦ omega (arith, w.sum-is, w.cut_at-cut.ensures.start, w.cut_at-cut.ensures.end, count_there z p s.source (s.start + i) (sym w.if-is_there.ensures))
      | else-is_there w ↦ omega (arith, w.sum-is, count_none z p s.source (s.start + i) (sym w.if-is_there.ensures))
    ] in
    more_ends z p s.source s.start c.args.first c.args.total i c.loop-i.sum c.args.out.now c.loop-i.out c.put_offset.new.offsets c.if-is_there.sum step c.put_offset.ensures c.loop-i.invariant
