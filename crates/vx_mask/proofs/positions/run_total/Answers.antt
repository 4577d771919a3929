use Rattle.std.proofs.Common.{◌-◌, ◌∙◌, length, get_or, take, ap, arith}
use Rattle.std.specs.List.{range_with_len}
use Rattle.std.proofs.lemmas.List.{length-append}
use Rattle.std.proofs.lemmas.List.FromFn.{length-range_with_len}
use Rattle.vx_mask.specs.Positions.{run_positions}
use Rattle.vx_mask.proofs.AscendingLists.{covered_more, next_runs_ascend}
use Rattle.vx_mask.proofs.positions.run_total.Goals as goal

pub loop-run-preserved : goal.loop-run-preserved
loop-run-preserved c =
    let runs = c.args.runs.now in
    let k = c.loop-run.run-index in
    let run = get_or runs k (0, 0) in
    let more = ap length (covered_more runs k (0, 0) (omega arith)) ∙ length-append (run_positions (take k runs)) (range_with_len run.0 (run.1 - run.0)) in
    record {
      rest = next_runs_ascend c.loop-run.low c.args.len k runs (omega arith) (omega (arith, c.if-run-low.false)) (omega (arith, c.if-run.false)) (omega (arith, c.if-run-len.false)) ∙ c.loop-run.invariant.rest;
      counted = omega (arith, more, length-range_with_len run.0 (run.1 - run.0), c.loop-run.invariant.counted);
      within = omega (arith, c.loop-run.invariant.within, c.if-run-low.false, c.if-run.false);
    }
