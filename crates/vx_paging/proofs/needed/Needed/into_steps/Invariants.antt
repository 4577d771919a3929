-- The masks that were taken off follow the steps, the ones that are left go behind them.
use Rattle.std.proofs.Common.{◌≡◌, ◌+◌, ◌∷◌, ◌++◌, length, map}
use Rattle.vx_steps.specs.Step.{slice_step, step_value}
use Rattle.vx_paging.specs.Needed.{filters_back}
use Rattle.vx_paging.proofs.needed.Needed.into_steps.Given as goal

abbrev pub invariant-loop : goal.invariant-loop
invariant-loop l = record {
  many : length l.masks.items + l.counter ≡ l.end;
  steps : map step_value l.steps.items ++ filters_back l.masks.items ≡ slice_step l.fn.self.start l.fn.self.end ∷ filters_back l.fn.self.masks.items;
}
