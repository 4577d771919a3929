use Rattle.std.proofs.Common.{ap, ◌∙◌, arith, eqb}
use Rattle.vx_mask.proofs.AgreeingLists.{no_run, run_more, runs_end}
use Rattle.vx_mask.proofs.agreement.are_set_runs.Goals as goal

pub returns-then-not-is_next_run : goal.returns-then-not-is_next_run
returns-then-not-is_next_run c =
    let v = c.loop-run.invariant in
    no_run c.args.bits.now.bits c.args.slices.now c.loop-run.run-index c.loop-run.low (omega arith) v.within v.found.cover
    (λ begins. let yes = c.is_next_run.ensures.1 begins in let no = c.if-not-is_next_run.true in cc)

pub loop-run-preserved : goal.loop-run-preserved
loop-run-preserved c =
    let v = c.loop-run.invariant in
    let next = c.is_next_run.ensures.0 c.if-not-is_next_run.false in
    record {
      found = run_more c.args.bits.now.bits c.args.slices.now c.loop-run.run-index c.loop-run.low (omega arith) v.found next;
      within = next.within;
    }

pub returns : goal.returns
returns c =
    let v = c.loop-run.invariant in
    let n = c.next_with.ensures in
    ap (eqb c.next_with.result) c.len.ensures
    ∙ runs_end c.args.bits.now.bits c.args.slices.now c.loop-run.run-index c.loop-run.low c.next_with.result (omega arith) n.from n.within n.passed n.found v.found
