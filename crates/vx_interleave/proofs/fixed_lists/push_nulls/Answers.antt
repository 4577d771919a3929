-- One null more.
use Rattle.vx_types.specs.DType.{type_of}
use Rattle.vx_interleave.proofs.ListCells.{one_null}
use Rattle.vx_interleave.proofs.fixed_lists.push_nulls.Goals as goal

pub loop-preserved : goal.loop-preserved
loop-preserved c =
    one_null (type_of c.args.dtype.now) c.loop.counter c.args.cells.now.items c.loop.cells.items c.push.new.self.items c.loop.invariant c.in_ok-push.ensures.items
