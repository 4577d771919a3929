use Rattle.std.proofs.Common.{◌≡◌, drop}
use Rattle.vx_types.specs.Variants.{are_distinct}
use Rattle.vx_types.proofs.variants.are_distinct.Given as goal

abbrev pub invariant-loop-i : goal.invariant-loop-i
invariant-loop-i l = are_distinct l.ids ≡ are_distinct (drop l.i l.ids)
