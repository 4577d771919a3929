use Rattle.std.proofs.Common.{◌≡◌, drop, map}
use Rattle.vx_types.specs.DType.{type_of}
use Rattle.vx_types.specs.Same.{are_same_types}
use Rattle.vx_types.proofs.+same.Given as goal

abbrev pub invariant-same::are_same_types-loop-i : goal.invariant-same::are_same_types-loop-i
invariant-same::are_same_types-loop-i l =
    are_same_types (map type_of l.xs) (map type_of l.ys)
    ≡ are_same_types (map type_of (drop l.i l.xs)) (map type_of (drop l.i l.ys))
