-- One step more, from the last one on.
use Rattle.std.proofs.Common.{◌≡◌, ◌+◌, ◌-◌, ◌<◌, length, map, get_or, suc, ap, ◌∙◌, subst, arith}
use Rattle.std.specs.Prelude.{slice_range}
use Rattle.vx_steps.specs.Step.{step_value}
use Rattle.vx_steps.specs.Walk.{all_positions}
use Rattle.vx_steps.proofs.Walks.{step_at, step_within}
use Rattle.vx_paging.specs.Needed.{Leaves, left_by, left_of}
use Rattle.vx_paging.proofs.Needing.{no_take, rows_within, step_back}
use Rattle.vx_paging.proofs.needed.needed_by.Goals as goal

pub before-requires-clause-cut : goal.before-requires-clause-cut
before-requires-clause-cut c =
    let steps = c.args.steps.now in let k = length steps - 1 - c.loop-i.i in let x = c.index-steps-steps in
    let h : k < length steps = omega (arith, c.loop-i-test.true) in
    no_take (map step_value steps) k (step_value x.result) c.requires.cut (step_within steps k h) (step_at steps k x.result h x.is)

pub before-requires-clause-within : goal.before-requires-clause-within
before-requires-clause-within c =
    let n = c.args.len in let steps = c.args.steps.now in let i = c.loop-i.i in let k = length steps - 1 - i in let x = c.index-steps-steps in
    let h : k < length steps = omega (arith, c.loop-i-test.true) in
    let next : length steps - i ≡ suc k = omega (arith, c.loop-i-test.true) in
    let both = step_back n (map step_value steps) k (length steps - i) (step_value x.result) c.requires.unbroken next (step_within steps k h) (step_at steps k x.result h x.is) in
    rows_within (step_value x.result) (left_by k (all_positions n) (map step_value steps)) (left_by (length steps - i) (all_positions n) (map step_value steps)) c.loop-i.needed.end both.0 both.1 c.loop-i.invariant.within

pub loop-i-preserved : goal.loop-i-preserved
loop-i-preserved c =
    let n = c.args.len in let steps = c.args.steps.now in let i = c.loop-i.i in let k = length steps - (i + 1) in let x = c.index-steps-steps in
    let left = slice_range (left_of n (map step_value steps)) c.args.start c.args.end in
    let h : k < length steps = omega (arith, c.loop-i-test.true) in
    let next : length steps - i ≡ suc k = omega (arith, c.loop-i-test.true) in
    let place : length steps - 1 - i ≡ k = omega arith in
    let both = step_back n (map step_value steps) k (length steps - i) (step_value x.result) c.requires.unbroken next (step_within steps k h) (step_at steps k x.result h (x.is ∙ ap (λ j. get_or steps j x.result) place)) in
    c.in_ok-needed.ensures (left_by k (all_positions n) (map step_value steps)) left both.0
    (subst (λ items. Leaves c.loop-i.needed.start c.loop-i.needed.end c.loop-i.needed.masks.items items left) both.1 c.loop-i.invariant)
