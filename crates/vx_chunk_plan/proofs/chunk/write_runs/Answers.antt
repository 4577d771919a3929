-- One run more.
use Rattle.std.proofs.Common.{◌+◌, ◌-◌, ◌*◌, ◌<◌, length, get_or, arith}
use Rattle.vx_chunk_plan.proofs.RowPuts.{row_of_run, run_fits, scattered_more}
use Rattle.vx_chunk_plan.proofs.chunk.write_runs.Goals as goal

pub overflow_mul-n : goal.overflow_mul-n
overflow_mul-n c =
    let a = c.args in
    let fit = run_fits a.width a.span.first a.span.rows a.chunk.now a.places.now a.order.now a.out.now c.loop-i.i c.follow-n.result c.requires c.follow-n.ensures.some c.follow-n.ensures.run in
    omega (arith, fit.0)

pub overflow_add-at : goal.overflow_add-at
overflow_add-at c =
    let a = c.args in
    let fit = run_fits a.width a.span.first a.span.rows a.chunk.now a.places.now a.order.now a.out.now c.loop-i.i c.follow-n.result c.requires c.follow-n.ensures.some c.follow-n.ensures.run in
    omega (arith, fit.0)

pub slice_bounds-put_rows-end : goal.slice_bounds-put_rows-end
slice_bounds-put_rows-end c =
    let a = c.args in
    let fit = run_fits a.width a.span.first a.span.rows a.chunk.now a.places.now a.order.now a.out.now c.loop-i.i c.follow-n.result c.requires c.follow-n.ensures.some c.follow-n.ensures.run in
    omega (arith, fit.0)

pub put_rows-requires-clause-room : goal.put_rows-requires-clause-room
put_rows-requires-clause-room c =
    let a = c.args in
    let fit = run_fits a.width a.span.first a.span.rows a.chunk.now a.places.now a.order.now a.out.now c.loop-i.i c.follow-n.result c.requires c.follow-n.ensures.some c.follow-n.ensures.run in
    omega (arith, fit.1)

pub loop-i-preserved : goal.loop-i-preserved
loop-i-preserved c =
    let w = c.args.width in
    let a = c.args in
    let i = c.loop-i.i in
    let n = c.follow-n.result in
    let first = a.span.first in
    let p = get_or a.places.now (get_or a.order.now i 0) 0 in
    let lt : i < length a.order.now = omega arith in
    record {
      within = c.follow-n.ensures.run.within;
      so = scattered_more w first a.chunk.now a.places.now a.order.now i n _ a.out.now c.loop-i.out c.put_rows.new.out c.loop-i.invariant.so c.follow-n.ensures.run (c.requires.low i lt)
          (λ t h. row_of_run w (p - first) n ((p - first) * w + n * w - (p - first) * w) t a.chunk.now (omega arith) h) c.put_rows.ensures;
    }
