-- The key columns before this one.
use Rattle.std.proofs.Common.{◌≡◌, take}
use Rattle.vx_table.specs.Taken.{items_by_number}
use Rattle.vx_join.specs.Cells.{rows_of}
use Rattle.vx_join.specs.Numbers.{types_of}
use Rattle.vx_join.proofs.keys.key_columns.Given as goal

abbrev pub invariant-loop-i : goal.invariant-loop-i
invariant-loop-i l = record {
  rows : rows_of l.keys.items ≡ rows_of (items_by_number (take l.i-index l.numbers) l.columns);
  types : types_of l.keys.items ≡ types_of (items_by_number (take l.i-index l.numbers) l.columns);
}
