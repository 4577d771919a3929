-- The last list that is left is pushed.
use Rattle.std.proofs.Common.{◌≡◌, ◌+◌, ◌∷◌, ◌++◌, ◌∙◌, [], ap, arith, length, length-append, refl, rules}
use Rattle.vx_arrow_interleave.proofs.PlanWalks.{none_left, pushed_last}
use Rattle.vx_arrow_interleave.proofs.planning.push_split.Goals as goal
use Rattle.vx_arrow_interleave.proofs.planning.push_split.Goals.{in-Some+in_ok-push, in_default}

pub loop-init : goal.loop-init
loop-init c =
    let all : length c.args.lists.items + 0 ≡ length c.args.lists.items = omega arith in
    (refl, all)

pub loop-preserved : goal.loop-preserved
loop-preserved c =
    let left = c.loop.left.items in
    let rest = c.pop.new.self.items in
    elim c.match-pop.branch [
      | in-Some+in_ok-push w ↦
          let last = w.in-Some.last in
          let popped : left ≡ rest ++ last ∷ [] = search rules in
          let pushed : w.push.new.self.items ≡ c.loop.stack.items ++ last ∷ [] = search rules in (
            pushed_last c.loop.stack.items c.match-pop.stack.items left rest _ last popped (ap (λ v. v.items) w.stack-is ∙ pushed) c.loop.invariant.0,
            omega (arith, ap length popped, length-append rest (last ∷ []), c.loop.invariant.1),
          )
      | in_default w ↦
          let none : length left ≡ 0 = search rules in
          absurd (omega (arith, none, c.loop.invariant.1, c.loop-test.true, c.len-end.ensures))
    ]

pub returns : goal.returns
returns c =
    let none : length c.loop.left.items ≡ 0 = omega (arith, c.loop.invariant.1, c.loop-test.false, c.len-end.ensures) in
    none_left c.loop.stack.items c.loop.left.items _ none c.loop.invariant.0
