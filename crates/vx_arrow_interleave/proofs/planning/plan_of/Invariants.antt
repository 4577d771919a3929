-- The walk so far.
use Rattle.vx_arrow_interleave.specs.Planned.{groups_of, sources_in}
use Rattle.vx_arrow_interleave.specs.Spots.{spots}
use Rattle.vx_arrow_interleave.proofs.PlanWalks.{WalkIs}
use Rattle.vx_arrow_interleave.proofs.planning.plan_of.Given as goal

abbrev pub invariant-loop-i : goal.invariant-loop-i
invariant-loop-i l = WalkIs (sources_in l.groups) (groups_of l.groups) (spots l.spans) l.i l.walk
