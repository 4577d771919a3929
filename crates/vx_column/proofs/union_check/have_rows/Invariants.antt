use Rattle.std.proofs.Common.{◌≡◌, drop}
use Rattle.vx_positions.specs.Positions.{positions_of}
use Rattle.vx_model.specs.Numbers.{integers_of, numbers_of}
use Rattle.vx_model.specs.Union.{have_rows}
use Rattle.vx_column.proofs.union_check.have_rows.Given as goal

abbrev pub invariant-loop-i : goal.invariant-loop-i
invariant-loop-i l =
    have_rows l.ids l.children (positions_of (numbers_of l.type_ids)) (integers_of l.offsets)
    ≡ have_rows l.ids l.children (drop l.i (positions_of (numbers_of l.type_ids))) (drop l.i (integers_of l.offsets))
