-- One part more.
use Rattle.std.proofs.Common.{length, arith}
use Rattle.vx_cuts.specs.Slices.{left_in}
use Rattle.vx_cuts.proofs.Filled.{filled_all, filled_more}
use Rattle.vx_cuts.proofs.slices.put_left.Goals as goal

pub loop-k-preserved : goal.loop-k-preserved
loop-k-preserved c = filled_more (left_in c.args.starts.now c.args.ends.now) c.loop-k.left c.loop-k.k _ 0 (omega arith) (search (arith)) c.loop-k.invariant

pub returns : goal.returns
returns c = filled_all (left_in c.args.starts.now c.args.ends.now) c.loop-k.left (length c.args.left.now) c.loop-k.k 0 (omega arith) (omega arith) c.loop-k.invariant
