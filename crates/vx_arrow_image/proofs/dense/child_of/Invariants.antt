-- The id is none of those so far.
use Rattle.std.proofs.Common.{◌≡◌, ◌+◌, drop}
use Rattle.vx_arrow_image.specs.Image.{child_of}
use Rattle.vx_arrow_image.proofs.dense.child_of.Given as goal

abbrev pub invariant-loop-k : goal.invariant-loop-k
invariant-loop-k l = l.k + child_of (drop l.k l.ids) l.id ≡ child_of l.ids l.id
