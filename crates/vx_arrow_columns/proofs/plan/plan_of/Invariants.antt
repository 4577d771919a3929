-- The nodes so far.
use Rattle.vx_arrow_image.specs.Image.{parts_of}
use Rattle.vx_arrow_columns.proofs.SoundWalks.{WalkFits}
use Rattle.vx_arrow_columns.proofs.plan.plan_of.Given as goal

abbrev pub invariant-loop-i : goal.invariant-loop-i
invariant-loop-i l = WalkFits (parts_of l.nodes) l.places l.valid l.i l.walk
