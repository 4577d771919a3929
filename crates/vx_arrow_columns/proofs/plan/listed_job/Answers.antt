-- The list stands behind the others.
use Rattle.std.proofs.Common.{refl, ◌≡◌, ◌++◌, ◌∷◌, [], Some, false, ap, length, arith, rules}
use Rattle.vx_arrow_columns.specs.declared.plan.Job.{Job}
use Rattle.vx_arrow_columns.proofs.Plans.{list_pushed}
use Rattle.vx_arrow_columns.proofs.plan.listed_job.Goals as goal

pub returns-clause-job : goal.returns-clause-job
returns-clause-job c =
    let old = c.args.lists.now.items in
    let items = c.args.items in
    let list : c.len-list.result ≡ length old = omega arith in
    let pushed : c.push.new.self.items ≡ old ++ items.list ∷ [] = search rules in
    let next : Job = record { list = Some c.len-list.result; add = 0; end = items.end; kept = false } in
    list_pushed old c.push.new.self.items items next pushed (ap Some list) refl refl refl
