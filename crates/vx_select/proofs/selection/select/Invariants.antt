-- What holds before each step.
use Rattle.std.proofs.Common.{◌≡◌, map, length}
use Rattle.vx_types.specs.RowValue.{null}
use Rattle.vx_take.specs.Picks.{at}
use Rattle.vx_steps.specs.Step.{step_value}
use Rattle.vx_steps.proofs.Walks.{Reached}
use Rattle.vx_select.proofs.Selecting.{IsLeftOf}
use Rattle.vx_select.proofs.selection.select.Given as goal

-- the rows are those at the picks so far
abbrev pub invariant-loop-step : goal.invariant-loop-step
invariant-loop-step l = record {
  reached : Reached (length l.column.rows) (map step_value l.steps) l.step-index (λ picks. at null l.column.rows picks ≡ l.current.rows);
  left : IsLeftOf l.column (map step_value l.steps) l.step-index l.current;
}
