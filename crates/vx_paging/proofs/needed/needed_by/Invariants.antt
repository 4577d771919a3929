-- The rows that are needed of those before the steps that were passed.
use Rattle.std.proofs.Common.{◌-◌, length, map}
use Rattle.std.specs.Prelude.{slice_range}
use Rattle.vx_steps.specs.Step.{step_value}
use Rattle.vx_steps.specs.Walk.{all_positions}
use Rattle.vx_paging.specs.Needed.{Leaves, left_by, left_of}
use Rattle.vx_paging.proofs.needed.needed_by.Given as goal

abbrev pub invariant-loop-i : goal.invariant-loop-i
invariant-loop-i l =
    Leaves l.needed.start l.needed.end l.needed.masks.items (left_by (length l.steps - l.i) (all_positions l.fn.len) (map step_value l.steps)) (slice_range (left_of l.fn.len (map step_value l.steps)) l.fn.start l.fn.end)
