use Rattle.std.proofs.Common.{◌∙◌, arith}
use Rattle.vx_lists.proofs.SummedRows.{next_run_summed, run_room, run_summed}
use Rattle.vx_lists.proofs.filter.sums_by_runs.Goals as goal
use Rattle.vx_mask.proofs.RunLists.{run_count}

pub push_sums-total-requires-clause-within : goal.push_sums-total-requires-clause-within
push_sums-total-requires-clause-within c =
    (next_run_summed c.args.offsets.now c.args.runs.now c.loop-run.run-index c.loop-run.sums.items c.loop-run.total c.loop-run-test.true c.requires.offsets c.requires.none_empty c.loop-run.invariant.summed).last

pub push_sums-total-requires-clause-before : goal.push_sums-total-requires-clause-before
push_sums-total-requires-clause-before c =
    (next_run_summed c.args.offsets.now c.args.runs.now c.loop-run.run-index c.loop-run.sums.items c.loop-run.total c.loop-run-test.true c.requires.offsets c.requires.none_empty c.loop-run.invariant.summed).behind

pub push_sums-total-requires-clause-room : goal.push_sums-total-requires-clause-room
push_sums-total-requires-clause-room c =
    let v = c.loop-run.invariant in
    omega (arith, v.count, v.room, c.requires.counted, run_room c.args.runs.now c.loop-run.run-index c.loop-run-test.true)

pub loop-run-preserved : goal.loop-run-preserved
loop-run-preserved c =
    let v = c.loop-run.invariant in
    let e = c.push_sums-total.ensures in
    record {
      summed = run_summed c.args.offsets.now c.args.runs.now c.loop-run.run-index c.loop-run.sums.items c.loop-run.total _ _ c.loop-run-test.true c.requires.offsets c.requires.none_empty v.summed e.items e.total e.bound;
      count = omega (arith, e.len, v.count, run_count c.args.runs.now c.loop-run.run-index c.loop-run-test.true);
      room = e.capacity ∙ v.room;
    }
