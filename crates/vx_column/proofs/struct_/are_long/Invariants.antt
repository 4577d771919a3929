use Rattle.std.proofs.Common.{◌≡◌, take, true}
use Rattle.vx_model.specs.Columns.{are_long}
use Rattle.vx_column.proofs.struct_.are_long.Given as goal

abbrev pub invariant-loop-column : goal.invariant-loop-column
invariant-loop-column l = are_long l.len (take l.column-index l.columns) ≡ true
