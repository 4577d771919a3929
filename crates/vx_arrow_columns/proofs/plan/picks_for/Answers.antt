-- The caller's picks, or those of a list.
use Rattle.std.proofs.Common.{true, ap, sym, ◌∙◌, refl}
use Rattle.vx_arrow_columns.specs.Measured.{list_places, list_valid}
use Rattle.vx_arrow_columns.specs.Planned.{are_runs}
use Rattle.vx_arrow_columns.proofs.Plans.{kept_is, none_is, runs_are, some_is}
use Rattle.vx_runs.specs.Runs.{run_places}
use Rattle.vx_arrow_columns.proofs.plan.picks_for.Goals as goal

pub returns-then-job : goal.returns-then-job
returns-then-job c = kept_is c.args.places.now c.args.valid.now c.args.lists.now c.args.job c.if-job.true

pub returns-in_default : goal.returns-in_default
returns-in_default c = none_is c.args.places.now c.args.valid.now c.args.lists.now c.args.job c.args.job.add c.in_default.is refl c.if-job.false

pub returns-in-Each : goal.returns-in-Each
returns-in-Each c =
    let x = c.index-lists-k.result in
    some_is c.args.places.now c.args.valid.now c.args.lists.now c.args.job c.in-Some.k x x _ _ c.in-Some.is (c.requires.listed c.in-Some.k c.in-Some.is) (sym c.index-lists-k.is)
    (c.deref.ensures.value ∙ sym (ap list_places c.in-Each.is)) (c.deref-in-Each.ensures.value ∙ sym (ap list_valid c.in-Each.is)) c.if-job.false

pub returns-in-Runs : goal.returns-in-Runs
returns-in-Runs c =
    let x = c.index-lists-k.result in
    let low = c.requires.listed c.in-Some.k c.in-Some.is in (
      some_is c.args.places.now c.args.valid.now c.args.lists.now c.args.job c.in-Some.k x x _ _ c.in-Some.is low (sym c.index-lists-k.is)
          (ap run_places c.deref-in-Runs.ensures.value ∙ sym (ap list_places c.in-Runs.is)) (sym (ap list_valid c.in-Runs.is)) c.if-job.false,
      runs_are c.args.lists.now c.args.job c.in-Some.k x x true c.in-Some.is low (sym c.index-lists-k.is) (ap are_runs c.in-Runs.is),
    )
