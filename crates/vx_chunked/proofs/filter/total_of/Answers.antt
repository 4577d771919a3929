use Rattle.std.proofs.Common.{◌+◌, arith}
use Rattle.vx_mask.specs.Positions.{run_positions}
use Rattle.vx_mask.proofs.AscendingLists.{ascending-run_positions}
use Rattle.vx_chunked.proofs.Ascends.{ascend_few, ascend_of}
use Rattle.vx_chunked.proofs.Spans.{run_is, covered_part}
use Rattle.vx_chunked.proofs.filter.total_of.Goals as goal
use Rattle.vx_mask.proofs.RunLists.{run_count}

pub overflow_sub-total : goal.overflow_sub-total
overflow_sub-total c = omega (arith, run_is 0 c.args.len c.args.slices.now c.loop-start.start-index c.requires (omega arith))

pub overflow_add-total : goal.overflow_add-total
overflow_add-total c =
    let runs = c.args.slices.now in
    let k = c.loop-start.start-index in
    let more = run_count runs k (omega arith) in
    let part = covered_part runs (k + 1) in
    let few = ascend_few 0 c.args.len (run_positions runs) (omega arith) (ascend_of 0 c.args.len (run_positions runs) (ascending-run_positions 0 c.args.len runs c.requires)) in
    omega (arith, more, part, few, c.loop-start.invariant)

pub loop-start-preserved : goal.loop-start-preserved
loop-start-preserved c =
    let more = run_count c.args.slices.now c.loop-start.start-index (omega arith) in
    omega (arith, more, c.loop-start.invariant)
