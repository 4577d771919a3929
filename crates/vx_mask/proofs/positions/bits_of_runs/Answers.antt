use Rattle.std.proofs.Common.{ap, ◌∙◌, arith}
use Rattle.std.proofs.lemmas.Result.{IfOk-weaker}
use Rattle.vx_mask.specs.Mask.{at_front}
use Rattle.vx_mask.proofs.MadeBits.{run_made, runs_made}
use Rattle.vx_mask.proofs.positions.bits_of_runs.Goals as goal

pub loop-run-preserved : goal.loop-run-preserved
loop-run-preserved c =
    run_made c.loop-run.bits _ _ c.args.runs.now c.args.len c.loop-run.run-index c.loop-run.at (omega arith) c.loop-run.invariant c.in_ok-append_n.ensures.ok c.in_ok-append_n-2.ensures.ok

pub returns : goal.returns
returns c =
    let all = runs_made c.loop-run.bits _ c.args.runs.now c.args.len c.loop-run.run-index c.loop-run.at (omega arith) c.loop-run.invariant c.in_ok-append_n-3.ensures.ok in
    IfOk-weaker c.finish.result _ _ (λ b h. h ∙ ap at_front all) c.finish.ensures
