-- A node that is kept, or that is measured at runs or at other picks.
use Rattle.std.proofs.Common.{refl, subst, sym}
use Rattle.std.proofs.lemmas.Result.{err_from_is_err_and}
use Rattle.vx_arrow_columns.specs.Asked.{the_picking}
use Rattle.vx_arrow_columns.specs.Picks.{Picking}
use Rattle.vx_arrow_columns.specs.Planned.{IsJobMeasured, child_lens}
use Rattle.vx_arrow_columns.specs.Sound.{IsJobFault}
use Rattle.vx_arrow_columns.specs.Taken.{AreWithin}
use Rattle.vx_arrow_columns.proofs.Lacking.{err_weaker, job_fault}
use Rattle.vx_arrow_columns.proofs.Measures.{ok_weaker}
use Rattle.vx_arrow_image.specs.Image.{part_of, parts_of}
use Rattle.vx_arrow_columns.proofs.Plans.{each_picks, kept_measured, kept_picks, own_measured, run_picks}
use Rattle.vx_arrow_columns.proofs.plan.measure_job.Goals as goal

pub returns-in-Kept-clause-measured : goal.returns-in-Kept-clause-measured
returns-in-Kept-clause-measured c = kept_measured c.args.node.now (parts_of c.args.behind.now) _ _ (kept_picks _ _ _ c.in-Kept.is c.picks_for.ensures) refl

pub measure_runs-requires-clause-plain : goal.measure_runs-requires-clause-plain
measure_runs-requires-clause-plain c = c.requires.fits (run_picks _ _ _ _ c.in-Runs.is c.picks_for.ensures).1

pub measure_runs-requires-clause-within : goal.measure_runs-requires-clause-within
measure_runs-requires-clause-within c = subst (λ (q : Picking). AreWithin q.picks c.args.job.end) (sym (run_picks _ _ _ _ c.in-Runs.is c.picks_for.ensures).0) c.requires.within

pub returns-in-Runs-clause-measured : goal.returns-in-Runs-clause-measured
returns-in-Runs-clause-measured c =
    let is = run_picks _ _ _ _ c.in-Runs.is c.picks_for.ensures in
    let behind = parts_of c.args.behind.now in
    ok_weaker _ _ c.measure_runs.result (λ m h. subst (λ (q : Picking). IsJobMeasured (part_of c.args.node.now) q behind m) is.0 (h behind)) c.measure_runs.ensures.measured

pub returns-in-Runs-clause-fault : goal.returns-in-Runs-clause-fault
returns-in-Runs-clause-fault c =
    let is = run_picks _ _ _ _ c.in-Runs.is c.picks_for.ensures in
    let p = part_of c.args.node.now in
    let lens = child_lens p (parts_of c.args.behind.now) in
    err_weaker _ _ c.measure_runs.result (λ e h. subst (λ (q : Picking). IsJobFault p q lens c.args.job.end e) is.0 (h lens)) c.measure_runs.ensures.fault

pub measure_node-requires : goal.measure_node-requires
measure_node-requires c = subst (λ (q : Picking). AreWithin q.picks c.args.job.end) (sym (each_picks _ _ _ _ c.in-Each.is c.picks_for.ensures)) c.requires.within

pub returns-in_ok-measure-in-Each-clause-measured : goal.returns-in_ok-measure-in-Each-clause-measured
returns-in_ok-measure-in-Each-clause-measured c =
    let ps = c.in-Each.picks in
    own_measured (part_of c.args.node.now) ps.places.now ps.valid.now ps.add _ (parts_of c.args.behind.now) _ c.in_ok-measure-in-Each.measure (each_picks _ _ _ _ c.in-Each.is c.picks_for.ensures) c.in_ok-measure-in-Each.ensures.measured c.in_ok-measure-in-Each.ensures.inside c.need_for.ensures

pub returns-in_err-measure-in-Each-clause-fault : goal.returns-in_err-measure-in-Each-clause-fault
returns-in_err-measure-in-Each-clause-fault c =
    let p = part_of c.args.node.now in
    let r = err_from_is_err_and c.from_residual.result c.from_residual.ensures.1 in
    rw (r.1, r.2) (job_fault p (the_picking c.in-Each.picks) _ (child_lens p (parts_of c.args.behind.now)) c.args.job.end _ (each_picks _ _ _ _ c.in-Each.is c.picks_for.ensures) refl c.in_err-measure-in-Each.ensures.fault)
