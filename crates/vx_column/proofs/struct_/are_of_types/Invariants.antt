use Rattle.std.proofs.Common.{◌≡◌, drop, map, true}
use Rattle.vx_types.specs.DType.{type_of}
use Rattle.vx_types.specs.Same.{are_same_types}
use Rattle.vx_types.specs.TypeTree.{are_carried, types_of}
use Rattle.vx_model.specs.Columns.{types_in}
use Rattle.vx_column.proofs.struct_.are_of_types.Given as goal

abbrev pub invariant-loop-i : goal.invariant-loop-i
invariant-loop-i l =
    (are_same_types (types_in l.columns) (map type_of l.types)
    ≡ are_same_types (types_in (drop l.i l.columns)) (map type_of (drop l.i l.types)))
    × (are_carried (types_of (types_in l.columns))
    ≡ are_carried (types_of (types_in (drop l.i l.columns))))
