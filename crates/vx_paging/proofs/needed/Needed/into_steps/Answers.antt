-- One mask more goes behind the steps.
use Rattle.std.proofs.Common.{◌∷◌}
use Rattle.vx_steps.specs.Step.{slice_step}
use Rattle.vx_paging.specs.Needed.{filters_back}
use Rattle.vx_paging.proofs.Needing.{one_more, popped_len}
use Rattle.vx_paging.proofs.needed.Needed.into_steps.Goals as goal

pub loop-preserved : goal.loop-preserved
loop-preserved c =
    let masks = c.loop.masks.items in let rest = c.pop.new.self.items in let popped = c.in-Some.ensures.items in
    record {
      many = popped_len masks rest c.in-Some.mask c.len-end.result c.loop.counter popped c.loop.invariant.many;
      steps = one_more c.loop.steps.items c.push-in-loop.new.self.items masks rest c.in-Some.mask (slice_step c.args.self.start c.args.self.end ∷ filters_back c.args.self.masks.items)
          popped c.in_ok-push-2.ensures.items c.loop.invariant.steps;
    }
