-- The same picks further on, a list of places, or one for each child.
use Rattle.std.proofs.Common.{◌≡◌, ℕ, List, ◌+◌, ◌-◌, ◌++◌, None, ap, ap₂, arith, false, length, refl, rules, subst, sym, take, true, ◌∙◌}
use Rattle.std.proofs.lemmas.List.{take_all}
use Rattle.std.specs.Prelude.{replicate}
use Rattle.vx_arrow_columns.specs.declared.needs.Inner.{Inner}
use Rattle.vx_arrow_columns.specs.declared.needs.Inner.TheVariants as inners
use Rattle.vx_arrow_columns.specs.declared.plan.Job.{Job}
use Rattle.vx_arrow_columns.specs.Planned.{AreSplitJobs, HasEach, IsNext, IsPushed}
use Rattle.vx_arrow_columns.proofs.Measures.{ok_then}
use Rattle.vx_arrow_columns.proofs.Plans.{next_is, next_kept, next_leaf, next_listed, next_same, pushed_same, pushed_split}
use Rattle.vx_arrow_columns.proofs.plan.push_inner.Goals as goal
use Rattle.vx_arrow_columns.proofs.plan.push_inner.Goals.{in-Leaf, in-Same, in-Kept, in-Listed+in_ok-next-in-Listed}

pub returns-in-Split-clause-pushed : goal.returns-in-Split-clause-pushed
returns-in-Split-clause-pushed c =
    let node = c.args.node.now in
    let job = c.args.job in
    let old = c.args.lists.now.items in
    let new = c.push_splits.new.lists.items in
    let stack = c.args.stack.now.items in
    let pushed = c.push_splits.new.stack.items in
    let items = c.in-Split.items in
    let each : length items.items ≡ node.children = subst (λ (i : Inner). HasEach i node.children) c.in-Split.is c.requires.each in
    ok_then (AreSplitJobs items.items old new stack pushed) (IsPushed node job c.args.inner old new stack pushed) c.push_splits.result (λ are.
    subst (λ (i : Inner). IsPushed node job i old new stack pushed) (sym c.in-Split.is) (pushed_split node job (inners.Split items) items.items old new stack pushed each (λ ps vs is. is) (λ lens asks. asks) are)) c.push_splits.ensures.pushed

pub returns-clause-pushed : goal.returns-clause-pushed
returns-clause-pushed c =
    let node = c.args.node.now in
    let job = c.args.job in
    let inner = c.args.inner in
    let old = c.args.lists.now.items in
    let new = c.match-inner.lists.items in
    let next = c.match-inner.next in
    let stack = c.args.stack.now.items in
    let pushed = c.resize.new.self.items in
    let is : IsNext node job inner old new next = elim c.match-inner.branch [
      | in-Leaf w ↦ next_is node job next job inner inners.Leaf old new old w.in-Leaf.is (ap (λ v. v.items) w.lists-is) w.next-is (next_leaf node job old)
      | in-Same w ↦
          let n : Job = record { list = job.list; add = w.saturating_add.result; end = w.saturating_add-in-Same.result; kept = false } in
          next_is node job next n inner inners.Same old new old w.in-Same.is (ap (λ v. v.items) w.lists-is) w.next-is (next_same node job n old refl refl (λ h. omega (arith, w.saturating_add.ensures)) (λ h. omega (arith, w.saturating_add-in-Same.ensures)))
      | in-Kept w ↦
          let n : Job = record { list = None; add = 0; end = 0; kept = true } in
          next_is node job next n inner inners.Kept old new old w.in-Kept.is (ap (λ v. v.items) w.lists-is) w.next-is (next_kept node job n old refl refl refl)
      | in-Listed+in_ok-next-in-Listed w ↦
          let items = w.in-Listed.items in
          let n = w.in_ok-next-in-Listed.next in
          let l = w.listed_job.new.lists.items in
          next_is node job next n inner (inners.Listed items) old new l w.in-Listed.is (ap (λ v. v.items) w.lists-is) w.next-is (next_listed node job n old l items w.in_ok-next-in-Listed.ensures.kept w.in_ok-next-in-Listed.ensures.job)
    ] in
    let n = c.len.result + node.children in
    let size : c.len.result ≡ length stack = omega arith in
    let grown : pushed ≡ take n stack ++ replicate (n - length stack) next = search rules in
    let all : take n stack ≡ stack = take_all n stack (omega arith) in
    let count : n - length stack ≡ node.children = omega arith in
    pushed_same node job next inner old new stack pushed is (grown ∙ ap₂ (λ (l : List Job) (m : ℕ). l ++ replicate m next) all count)
