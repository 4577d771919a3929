-- The columns so far are of the type.
use Rattle.std.proofs.Common.{◌≡◌, take}
use Rattle.std.specs.List.{All}
use Rattle.vx_types.specs.DType.{type_of}
use Rattle.vx_model.specs.Column.{Column}
use Rattle.rows_of_selections.proofs.parted.are_of.Given as goal

abbrev pub invariant-loop-column : goal.invariant-loop-column
invariant-loop-column l = All (λ (c : Column). c.dtype ≡ type_of l.dtype) (take l.column-index l.columns)
