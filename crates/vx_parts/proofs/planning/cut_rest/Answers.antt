-- Where all picks are there, each row of the order has a place.
use Rattle.vx_parts.proofs.NullsTold.{cut_there}
use Rattle.vx_parts.proofs.planning.cut_rest.Goals as goal

pub returns-clause-told : goal.returns-clause-told
returns-clause-told c = λ none.
    cut_there _ c.in_ok-picks.picks.picks _ c.in_ok-cut_picks.field-0.order.items c.in_ok-cut_picks.ensures (c.in_ok-picks.ensures.there none)
