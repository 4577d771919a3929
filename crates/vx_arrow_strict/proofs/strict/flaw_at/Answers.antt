-- The node, its extra and the nodes behind it, in the parts of the table.
use Rattle.std.proofs.Common.{refl}
use Rattle.vx_arrow_image.specs.Image.{parts_of}
use Rattle.vx_arrow_strict.proofs.Tables.{flaw_here, flaw_past}
use Rattle.vx_arrow_strict.proofs.strict.flaw_at.Goals as goal

pub returns-then-k-extras : goal.returns-then-k-extras
returns-then-k-extras c = flaw_past (parts_of c.args.nodes.now) c.args.extras.now c.args.k c.if-k-extras.true

pub returns : goal.returns
returns c = flaw_here c.args.nodes.now c.args.extras.now c.args.k _ _ _ _ c.requires c.if-k-extras.false refl refl c.flaw_of.ensures
