-- The steps so far are no takes.
use Rattle.std.proofs.Common.{◌≡◌, ◌++◌, drop, map}
use Rattle.vx_steps.specs.Step.{step_value}
use Rattle.vx_parts.specs.Cuts.{cut_value, cuts_of, from_take}
use Rattle.vx_parts.proofs.cut.prefix_of.Given as goal

abbrev pub invariant-loop-done : goal.invariant-loop-done
invariant-loop-done l = record {
  cuts : map cut_value l.cuts.items ++ cuts_of (map step_value (drop l.done l.steps)) ≡ cuts_of (map step_value l.steps);
  rest : from_take (map step_value (drop l.done l.steps)) ≡ from_take (map step_value l.steps);
}
