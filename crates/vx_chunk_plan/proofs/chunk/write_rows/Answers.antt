-- One row more.
use Rattle.std.proofs.Common.{◌+◌, ◌-◌, ◌*◌, ◌<◌, length, get_or, arith}
use Rattle.vx_chunk_plan.proofs.RowPuts.{follows_alone, row_of_run, scattered_more}
use Rattle.vx_chunk_plan.proofs.chunk.write_rows.Goals as goal

pub loop-i-preserved : goal.loop-i-preserved
loop-i-preserved g c =
    let w = g.row.W in
    let a = c.args in
    let i = c.loop-i.i in
    let first = a.span.first in
    let p = get_or a.places.now (get_or a.order.now i 0) 0 in
    let lt : i < length a.order.now = omega arith in
    scattered_more w first a.chunk.now a.places.now a.order.now i 1 _ a.out.now c.loop-i.out c.put_row.new.out c.loop-i.invariant (follows_alone a.places.now a.order.now i lt) (c.requires.low i lt)
    (λ t h. row_of_run w (p - first) 1 ((p - first) * w + w - (p - first) * w) t a.chunk.now (omega arith) h) c.put_row.ensures
