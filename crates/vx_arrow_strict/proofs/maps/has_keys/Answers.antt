-- Lists of no rows span no entry.
use Rattle.vx_arrow_image.specs.Image.{part_of}
use Rattle.vx_arrow_strict.proofs.Counts.{no_keys}
use Rattle.vx_arrow_strict.proofs.maps.has_keys.Goals as goal

pub returns-then-node-eq0 : goal.returns-then-node-eq0
returns-then-node-eq0 c = no_keys (part_of c.args.node.now) (part_of c.args.entries.now) (part_of c.args.keys.now) c.if-node-eq0.true
