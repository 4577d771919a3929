-- The lengths of the columns of the nodes that were tested.
use Rattle.vx_arrow_image.specs.Image.{parts_of}
use Rattle.vx_arrow_image.proofs.Stacks.{Stacked}
use Rattle.vx_arrow_image.proofs.checking.check.Given as goal

abbrev pub invariant-loop-i : goal.invariant-loop-i
invariant-loop-i l = Stacked (parts_of l.nodes) l.lens.items l.i l.top
