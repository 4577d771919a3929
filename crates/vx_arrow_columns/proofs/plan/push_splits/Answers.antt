-- One job more.
use Rattle.std.proofs.Common.{◌≡◌, ◌+◌, ◌++◌, ◌∷◌, [], List, ap, length, length-append, subst, sym, ◌∙◌, arith, rules}
use Rattle.vx_arrow_columns.specs.declared.places.Places.{Places}
use Rattle.vx_arrow_columns.specs.Planned.{IsListedJob}
use Rattle.vx_arrow_columns.proofs.Plans.{all_splits, more_splits, no_splits}
use Rattle.vx_arrow_columns.proofs.plan.push_splits.Goals as goal
use Rattle.vx_arrow_columns.proofs.plan.push_splits.Goals.{in-Some+in_ok-next+in_ok-push, in_default}

pub loop-popped-init : goal.loop-popped-init
loop-popped-init c =
    let all = c.args.items.items in
    let none : length all + 0 ≡ length all = omega arith in
    (none, no_splits all c.args.lists.now.items c.args.stack.now.items)

pub loop-popped-preserved : goal.loop-popped-preserved
loop-popped-preserved c =
    let left = c.loop-popped.items.items in
    let rest = c.pop.new.self.items in
    let mid = c.loop-popped.lists.items in
    let new = c.match-pop.lists.items in
    let after = c.match-pop.stack.items in
    elim c.match-pop.branch [
      | in-Some+in_ok-next+in_ok-push w ↦
          let last = w.in-Some.last in
          let next = w.in_ok-next.next in
          let popped : left ≡ rest ++ last ∷ [] = search rules in
          let pushed : w.push.new.self.items ≡ c.loop-popped.stack.items ++ next ∷ [] = search rules in
          let lists = ap (λ v. v.items) w.lists-is in
          let own : IsListedJob new next last = subst (λ (l : List Places). IsListedJob l next last) (sym lists) w.in_ok-next.ensures.job in (
            omega (arith, ap length popped, length-append rest (last ∷ []), c.loop-popped.invariant.0),
            more_splits c.args.items.items left rest last c.args.lists.now.items mid new c.args.stack.now.items c.loop-popped.stack.items after next popped (lists ∙ w.in_ok-next.ensures.kept) own (ap (λ v. v.items) w.stack-is ∙ pushed) c.loop-popped.invariant.1,
          )
      | in_default w ↦
          let none : length left ≡ 0 = search rules in
          absurd (omega (arith, none, c.loop-popped.invariant.0, c.loop-popped-test.true))
    ]

pub returns-clause-pushed : goal.returns-clause-pushed
returns-clause-pushed c =
    let none : length c.loop-popped.items.items ≡ 0 = omega (arith, c.loop-popped.invariant.0, c.loop-popped-test.false) in
    all_splits c.args.items.items c.loop-popped.items.items c.args.lists.now.items c.loop-popped.lists.items c.args.stack.now.items c.loop-popped.stack.items none c.loop-popped.invariant.1
