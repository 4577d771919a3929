-- The own steps so far, and those of the steps that are left.
use Rattle.std.proofs.Common.{◌≡◌, ◌++◌, drop, map}
use Rattle.vx_steps.specs.Step.{step_value}
use Rattle.vx_parts.specs.Cuts.{as_step, cut_value, own_cuts}
use Rattle.vx_parts.proofs.cut.own_cuts.Given as goal

abbrev pub invariant-loop-cut : goal.invariant-loop-cut
invariant-loop-cut l =
    map step_value l.steps.items ++ map as_step (own_cuts (map cut_value (drop l.cut-index l.cuts)) l.start l.end)
    ≡ map as_step (own_cuts (map cut_value l.cuts) l.low l.high)
