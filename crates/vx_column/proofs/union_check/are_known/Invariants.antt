use Rattle.std.proofs.Common.{◌≡◌, drop}
use Rattle.std.specs.List.{list_all}
use Rattle.vx_positions.specs.Positions.{positions_of}
use Rattle.vx_model.specs.Numbers.{numbers_of}
use Rattle.vx_model.specs.Union.{is_known}
use Rattle.vx_column.proofs.union_check.are_known.Given as goal

abbrev pub invariant-loop-i : goal.invariant-loop-i
invariant-loop-i l =
    list_all (is_known l.ids) (positions_of (numbers_of l.type_ids))
    ≡ list_all (is_known l.ids) (drop l.i (positions_of (numbers_of l.type_ids)))
