-- Each step in turn over the picks that the ones before left.
use Rattle.std.proofs.Common.{◌≡◌, map, length, sym, ap, ◌∙◌, ◌-◌, None, refl}
use Rattle.vx_steps.specs.Step.{step_value}
use Rattle.vx_steps.specs.Walk.{apply, broken}
use Rattle.vx_steps.specs.Compose.{picks_in, range_picks}
use Rattle.vx_steps.proofs.Walks.{reached_start, reached_next, reached_sound, step_at, step_within}
use Rattle.vx_steps.proofs.ComposedPicks.{all_positions-range, each_leaves_none, there-range}
use Rattle.vx_steps.proofs.composing.composed_by.Goals as goal

pub loop-step-init : goal.loop-step-init
loop-step-init c =
    let n = c.args.len in
    record {
      reached = reached_start n (map step_value c.args.steps.now) (λ picks. picks ≡ range_picks 0 n) (all_positions-range n);
      bound = refl;
      there = λ _. there-range 0 (n - 0);
    }

pub after-requires : goal.after-requires
after-requires c =
    let n = c.args.len in let steps = c.args.steps.now in let k = c.loop-step.step-index in let x = c.step-item in
    let r = c.loop-step.invariant.reached in
    ap (λ l. broken (step_value x.result) (length l)) (sym r.so)
    ∙ reached_sound n (map step_value steps) k (λ picks. picks ≡ picks_in c.loop-step.composed) r (step_value x.result) (step_within steps k c.loop-step-test.true) (step_at steps k x.result c.loop-step-test.true x.is) c.in_ok-check_steps.field-0 c.in_ok-check_steps.ensures

pub loop-step-preserved : goal.loop-step-preserved
loop-step-preserved c =
    let n = c.args.len in let steps = c.args.steps.now in let k = c.loop-step.step-index in let x = c.step-item in
    let v = c.loop-step.invariant in let s = step_value x.result in let next = c.in_ok-composed.ensures in
    let within = step_within steps k c.loop-step-test.true in let at = step_at steps k x.result c.loop-step-test.true x.is in
    let sound : broken s (length v.reached.picks) ≡ None =
    reached_sound n (map step_value steps) k (λ picks. picks ≡ picks_in c.loop-step.composed) v.reached s within at c.in_ok-check_steps.field-0 c.in_ok-check_steps.ensures in
    record {
      reached = reached_next n (map step_value steps) k (λ picks. picks ≡ picks_in c.loop-step.composed) v.reached s within at
          (λ picks. picks ≡ picks_in c.in_ok-composed.composed) sound (ap (apply None s) v.reached.so ∙ sym next.picks);
      bound = next.bound ∙ v.bound;
      there = λ none. next.there (each_leaves_none (map step_value steps) k s none within at) (v.there none);
    }
