-- The columns of the numbers before this one.
use Rattle.std.proofs.Common.{◌≡◌, take}
use Rattle.vx_table.specs.Taken.{items_by_number}
use Rattle.vx_table.proofs.projecting.chosen_columns.Given as goal

abbrev pub invariant-loop-i : goal.invariant-loop-i
invariant-loop-i l = l.copy.items ≡ items_by_number (take l.i-index l.projection) l.columns
