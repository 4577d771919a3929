-- There are no items.
use Rattle.vx_arrow_interleave.proofs.SpanItems.{bare_spots}
use Rattle.vx_arrow_interleave.proofs.planning.leaf.Goals as goal

pub returns-clause-items : goal.returns-clause-items
returns-clause-items c = bare_spots _ c.new.ensures.items
