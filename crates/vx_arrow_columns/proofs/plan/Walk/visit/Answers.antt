-- The facts of the steps, in order.
use Rattle.std.proofs.Common.{◌≡◌, ◌≤◌, ◌+◌, ◌++◌, ◌∷◌, [], List, ℕ, length, ap, sym, subst, ◌∙◌, arith, refl, rules}
use Rattle.vx_arrow_columns.specs.declared.places.Places.{Places}
use Rattle.vx_arrow_image.specs.Image.{part_of, parts_of}
use Rattle.vx_arrow_columns.specs.declared.plan.Walk.{Walk}
use Rattle.vx_arrow_columns.specs.Picks.{Picking}
use Rattle.vx_arrow_columns.specs.Planned.{Fits, IsJobMeasured, IsListed, IsPushed, IsVisited, child_lens, picking_in}
use Rattle.vx_arrow_columns.specs.Taken.{AreWithin}
use Rattle.std.proofs.lemmas.Result.{err_from_is_err_and}
use Rattle.vx_arrow_columns.proofs.Lacking.{moved_fault}
use Rattle.vx_arrow_columns.proofs.Measures.{ok_then}
use Rattle.vx_arrow_columns.proofs.Plans.{each_of, nexts_settled}
use Rattle.vx_arrow_columns.proofs.SoundWalks.{job_refused}
use Rattle.vx_arrow_columns.proofs.Walks.{grown_len, kept_fits, kept_job, popped_sound, still_listed}
use Rattle.vx_arrow_columns.proofs.plan.Walk.visit.Goals as goal

pub settled-requires : goal.settled-requires
settled-requires c =
    let old = c.args.self.now in
    let popped : old.stack.items ≡ c.pop.new.self.items ++ c.in-Some.popped ∷ [] = search rules in
    (popped_sound c.args.places.now c.args.valid.now old.lists.items old.stack.items c.pop.new.self.items c.in-Some.popped popped c.requires).1.listed

pub measure_job-requires-clause-listed : goal.measure_job-requires-clause-listed
measure_job-requires-clause-listed c = subst (λ (l : List Places). IsListed c.in_ok-job.job (length l)) (sym c.deref.ensures.value) c.in_ok-job.ensures.settled.listed

pub measure_job-requires-clause-within : goal.measure_job-requires-clause-within
measure_job-requires-clause-within c =
    let old = c.args.self.now in
    let ps = c.args.places.now in
    let vs = c.args.valid.now in
    let popped : old.stack.items ≡ c.pop.new.self.items ++ c.in-Some.popped ∷ [] = search rules in
    let sound = (popped_sound ps vs old.lists.items old.stack.items c.pop.new.self.items c.in-Some.popped popped c.requires).1 in
    let s = c.in_ok-job.ensures.settled in
    subst (λ (l : List Places). AreWithin (picking_in ps vs l c.in_ok-job.job).picks c.in_ok-job.job.end) (sym c.deref.ensures.value)
    (subst (λ (n : ℕ). AreWithin (picking_in ps vs c.settled.new.lists.items c.in_ok-job.job).picks n) (sym s.end) (subst (λ (q : Picking). AreWithin q.picks c.in-Some.popped.end) (sym (s.picks ps vs)) sound.within))

pub measure_job-requires-clause-fits : goal.measure_job-requires-clause-fits
measure_job-requires-clause-fits c = subst (λ (l : List Places). Fits (part_of c.args.node.now) l c.in_ok-job.job) (sym c.deref.ensures.value) c.in_ok-job.ensures.settled.fits

pub returns-clause-visited : goal.returns-clause-visited
returns-clause-visited c =
    let old = c.args.self.now in
    let node = c.args.node.now in
    let ps = c.args.places.now in
    let vs = c.args.valid.now in
    let job = c.in-Some.popped in
    let next = c.in_ok-job.job in
    let mid = c.settled.new.lists.items in
    let s = c.in_ok-job.ensures.settled in
    let was = s.picks ps vs in
    let read = subst (λ (l : List Places). IsJobMeasured (part_of node) (picking_in ps vs l next) (parts_of c.args.behind.now) c.in_ok-measure.measure) c.deref.ensures.value c.in_ok-measure.ensures.measured in
    let m = subst (λ (q : Picking). IsJobMeasured (part_of node) q (parts_of c.args.behind.now) c.in_ok-measure.measure) was read in
    let rest = c.pop.new.self.items in
    let popped : old.stack.items ≡ rest ++ job ∷ [] = search rules in
    let left : c.len-left.result ≡ length rest = omega (arith, c.len-left.ensures) in
    let few : node.children + length rest ≤ length c.args.behind.now = omega (arith, c.if-left-behind.false, c.if-node-behind.false) in
    let jobs : c.push.new.self.items ≡ old.jobs.items ++ next ∷ [] = search rules in
    let needs : c.push-2.new.self.items ≡ old.needs.items ++ c.in_ok-measure.measure.need ∷ [] = search rules in
    let inside = c.in_ok-measure.measure.inner in
    let lists = c.push_inner.new.lists.items in
    let new : Walk = record { jobs = c.push.new.self; lists = c.push_inner.new.lists; needs = c.push-2.new.self; stack = c.push_inner.new.stack } in
    ok_then (IsPushed node next inside mid lists rest new.stack.items) (IsVisited ps vs node c.args.behind.now old new) _ (λ pushed.
    let more = pushed.nexts_are.more in
    let grown = pushed.nexts_are.grown in
    record {
      job = job;
      next = next;
      nexts = pushed.nexts;
      inside = inside;
      rest = rest;
      popped = popped;
      few = few;
      stack = pushed.stack_is;
      jobs = jobs;
      picks = kept_job ps vs mid more lists next grown s.listed ∙ was;
      listed = still_listed next (length mid) (length lists) (grown_len mid more lists grown) s.listed;
      fits = kept_fits (part_of node) mid more lists next grown s.listed s.fits;
      needs = needs ∙ ap (λ n. old.needs.items ++ n ∷ []) m.need;
      nexts_are = nexts_settled node job next inside old.lists.items mid lists pushed.nexts s pushed.nexts_are;
      read = m.read;
      inner_is = m.children;
      asks = m.asks;
    }) c.push_inner.ensures.pushed

pub push_inner-requires-clause-each : goal.push_inner-requires-clause-each
push_inner-requires-clause-each c = each_of (part_of c.args.node.now) (picking_in c.args.places.now c.args.valid.now c.deref.result.now c.in_ok-job.job) c.in_ok-measure.measure.inner c.in_ok-measure.ensures.measured.children

pub returns-in_err-measure-clause-fault : goal.returns-in_err-measure-clause-fault
returns-in_err-measure-clause-fault c =
    let old = c.args.self.now in
    let node = c.args.node.now in
    let ps = c.args.places.now in
    let vs = c.args.valid.now in
    let rest = c.pop.new.self.items in
    let job = c.in-Some.popped in
    let next = c.in_ok-job.job in
    let s = c.in_ok-job.ensures.settled in
    let lens = child_lens (part_of node) (parts_of c.args.behind.now) in
    let popped : old.stack.items ≡ rest ++ job ∷ [] = search rules in
    let r = err_from_is_err_and c.from_residual-in_err-measure.result c.from_residual-in_err-measure.ensures.1 in
    let same : picking_in ps vs c.deref.result.now next ≡ picking_in ps vs old.lists.items job = ap (λ (l : List Places). picking_in ps vs l next) c.deref.ensures.value ∙ s.picks ps vs in
    rw (r.1, r.2) (job_refused ps vs node c.args.behind.now old old.lists.items rest job _ refl popped (moved_fault (part_of node) _ _ lens _ _ _ same s.end c.in_err-measure.ensures.fault))
