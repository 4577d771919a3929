-- One place more.
use Rattle.vx_interleave.proofs.AllPlaces.{one_place}
use Rattle.vx_interleave.proofs.joining.push_places.Goals as goal

pub loop-row-preserved : goal.loop-row-preserved
loop-row-preserved c =
    one_place c.args.order.now.items c.loop-row.order.items c.push.new.self.items c.args.column c.loop-row.row c.loop-row.invariant c.in_ok-push.ensures.items
