-- One pick more follows the one before it.
use Rattle.std.proofs.Common.{arith}
use Rattle.vx_chunk_plan.proofs.RowPuts.{follows_alone, follows_more}
use Rattle.vx_chunk_plan.proofs.chunk.follow.Goals as goal

pub loop-n-init : goal.loop-n-init
loop-n-init c = follows_alone c.args.places.now c.args.order.now c.args.i c.requires.index

pub loop-n-preserved : goal.loop-n-preserved
loop-n-preserved c = follows_more c.args.places.now c.args.order.now c.args.i c.loop-n.n (omega arith) (omega arith) (omega arith) (omega arith) c.loop-n.invariant
