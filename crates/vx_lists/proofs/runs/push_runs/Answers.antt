use Rattle.std.proofs.Common.{◌++◌, ◌∙◌, ap, append-nil, sym, arith}
use Rattle.vx_bits.specs.Words.{word_bits}
use Rattle.vx_mask.specs.Positions.{positions, run_positions}
use Rattle.vx_mask.proofs.LowestBit.{no_positions}
use Rattle.vx_lists.proofs.WordRuns.{rest_within, run_end, run_pushed, runs_some}
use Rattle.vx_lists.proofs.runs.push_runs.Goals as goal

pub overflow_add-start : goal.overflow_add-start
overflow_add-start c = omega (arith, run_end c.args.len c.args.base c.run.left _ _ _ c.lowest_run-run.ensures c.run.invariant.within)

pub overflow_add-start-in-run : goal.overflow_add-start-in-run
overflow_add-start-in-run c = omega (arith, run_end c.args.len c.args.base c.run.left _ _ _ c.lowest_run-run.ensures c.run.invariant.within)

pub run-preserved : goal.run-preserved
run-preserved c =
    let v = c.run.invariant in
    let run = c.lowest_run-run.ensures in
    let some = run.some in
    record {
      places = run_pushed c.run.runs.items _ c.args.base c.run.left _ _ _ run c.push_reserved.ensures.items ∙ v.places;
      some = runs_some c.run.runs.items _ _ _ (omega arith) c.push_reserved.ensures.items v.some;
      many = omega (arith, run.ones, some, c.push_reserved.ensures.len, v.many);
      room = c.push_reserved.ensures.capacity ∙ v.room;
      within = rest_within c.args.len c.args.base c.run.left _ _ _ run v.within;
    }

pub returns-clause-places : goal.returns-clause-places
returns-clause-places c =
    let v = c.run.invariant in
    sym (append-nil (run_positions c.run.runs.items)) ∙ sym (ap (λ l. run_positions c.run.runs.items ++ l) (ap (λ n. positions c.args.base (word_bits n 64)) (omega arith) ∙ no_positions c.args.base)) ∙ v.places ∙ c.lengthen_last-left.ensures.places
