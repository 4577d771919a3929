-- A bit for each row so far.
use Rattle.std.proofs.Common.{◌≡◌, map, take}
use Rattle.vx_types.specs.RowValue.{bit}
use Rattle.vx_types.specs.TypeTree.{bool_kind}
use Rattle.vx_interleave.specs.Rows.{rows_in, stored_as}
use Rattle.vx_interleave.proofs.bools.true_bits.Given as goal

abbrev pub invariant-loop-cell : goal.invariant-loop-cell
invariant-loop-cell l = map bit l.bits ≡ map (stored_as bool_kind) (rows_in (take l.cell-index l.cells))
