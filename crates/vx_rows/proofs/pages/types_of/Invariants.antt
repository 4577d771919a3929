-- The types of the columns before the one at hand.
use Rattle.std.proofs.Common.{◌≡◌, map, take}
use Rattle.vx_types.specs.DType.{type_of}
use Rattle.vx_model.specs.Columns.{types_in}
use Rattle.vx_rows.proofs.pages.types_of.Given as goal

abbrev pub invariant-loop-column : goal.invariant-loop-column
invariant-loop-column l = map type_of l.types.items ≡ types_in (take l.column-index l.columns)
