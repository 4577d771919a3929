-- The steps that are left count on from what those before left.
use Rattle.std.proofs.Common.{◌≡◌, drop, map}
use Rattle.vx_parts.specs.Cuts.{carried_by, cut_value}
use Rattle.vx_parts.proofs.cut.carried_by.Given as goal

abbrev pub invariant-loop-cut : goal.invariant-loop-cut
invariant-loop-cut l = carried_by (map cut_value (drop l.cut-index l.cuts)) l.left ≡ carried_by (map cut_value l.cuts) l.position
