-- The bounds so far, each counted anew.
use Rattle.std.proofs.Common.{◌≡◌, map, take}
use Rattle.vx_parts.specs.Cuts.{carried_by, cut_value}
use Rattle.vx_parts.proofs.cut.left_bounds.Given as goal

abbrev pub invariant-loop-bound : goal.invariant-loop-bound
invariant-loop-bound l = l.left.items ≡ map (carried_by (map cut_value l.cuts)) (take l.bound-index l.bounds)
