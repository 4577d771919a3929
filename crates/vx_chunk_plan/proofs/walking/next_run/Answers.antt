-- The run that ends at a pick of another chunk, or at the last one.
use Rattle.std.proofs.Common.{◌/◌, get_or, arith}
use Rattle.vx_chunk_plan.proofs.Walks.{run_is}
use Rattle.vx_chunk_plan.proofs.walking.next_run.Goals as goal

pub returns-else-places-end-clause-run : goal.returns-else-places-end-clause-run
returns-else-places-end-clause-run c =
    let a = c.args in
    let v = c.loop-end.invariant in
    run_is a.chunk_len a.places.now a.from (get_or a.places.now a.from 0 / a.chunk_len) c.loop-end.end (omega arith) v.some v.within v.lie (λ h. c.if-places-end.false)

pub returns-after-loop-end-clause-run : goal.returns-after-loop-end-clause-run
returns-after-loop-end-clause-run c =
    let a = c.args in
    let v = c.loop-end.invariant in
    run_is a.chunk_len a.places.now a.from (get_or a.places.now a.from 0 / a.chunk_len) c.loop-end.end (omega arith) v.some v.within v.lie (λ h. absurd (omega arith))
