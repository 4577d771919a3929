-- The ids of the children.
use Rattle.std.proofs.Common.{rules}
use Rattle.vx_arrow_image.specs.Image.{has_child}
use Rattle.vx_arrow_image.proofs.unions.has_child.Goals as goal

pub returns : goal.returns
unfolding has_child
returns c = search rules
