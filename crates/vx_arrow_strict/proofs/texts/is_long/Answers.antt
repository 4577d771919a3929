-- The data buffer has bytes for its rows.
use Rattle.std.proofs.Common.{arith}
use Rattle.vx_arrow_strict.proofs.Tables.{buffer_here}
use Rattle.vx_arrow_strict.proofs.texts.is_long.Goals as goal

pub lies_in-requires-clause-few : goal.lies_in-requires-clause-few
lies_in-requires-clause-few c = (buffer_here c.args.node.now.children c.four_at-buffer.result c.args.below.now c.requires.buffers (omega arith) (omega (arith, c.requires.children))).few

pub lies_in-requires-clause-bytes : goal.lies_in-requires-clause-bytes
lies_in-requires-clause-bytes c = (buffer_here c.args.node.now.children c.four_at-buffer.result c.args.below.now c.requires.buffers (omega arith) (omega (arith, c.requires.children))).held
