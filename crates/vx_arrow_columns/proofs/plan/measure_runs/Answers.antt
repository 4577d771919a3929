-- As many rows as the runs have places.
use Rattle.std.proofs.Common.{[], arith}
use Rattle.std.proofs.lemmas.Result.{err_from_is_err_and}
use Rattle.vx_runs.specs.Runs.{run_places}
use Rattle.vx_arrow_image.specs.Image.{part_of}
use Rattle.vx_arrow_columns.proofs.Lacking.{many_runs, run_fault}
use Rattle.vx_arrow_columns.proofs.Plans.{run_measured}
use Rattle.vx_arrow_columns.proofs.plan.measure_runs.Goals as goal

pub returns-in_default-clause-fault : goal.returns-in_default-clause-fault
returns-in_default-clause-fault c lens = let all = c.args.picks.now in many_runs (part_of c.args.node.now) (run_places all.runs.now) [] all.add (omega (arith, c.in_default.ensures.long))

pub returns-then-len-clause-fault : goal.returns-then-len-clause-fault
returns-then-len-clause-fault c lens = let all = c.args.picks.now in many_runs (part_of c.args.node.now) (run_places all.runs.now) [] all.add (omega (arith, c.in-Some.ensures.len, c.if-len.true))

pub returns-in_err-measure-clause-fault : goal.returns-in_err-measure-clause-fault
returns-in_err-measure-clause-fault c =
    let all = c.args.picks.now in
    let r = err_from_is_err_and c.from_residual-in_err-measure.result c.from_residual-in_err-measure.ensures.1 in
    rw (r.1, r.2) (run_fault (part_of c.args.node.now) (run_places all.runs.now) all.add _ c.args.end _ c.in-Some.ensures.len c.in_err-measure.ensures.fault)

pub returns-clause-measured : goal.returns-clause-measured
returns-clause-measured c =
    let all = c.args.picks.now in
    run_measured (part_of c.args.node.now) (run_places all.runs.now) all.add _ c.in_ok-measure.measure c.requires.plain c.in-Some.ensures.len (record { below = λ k i h e. let under = c.requires.within.below k i h e in omega (arith, c.in_ok-_format.ensures.long) }) c.in_ok-measure.ensures.measured
