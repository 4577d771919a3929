use Rattle.vx_mask.proofs.RankedItems.{items_at_the_set}
use Rattle.vx_filter.proofs.laws.filter_law.Goals as goal

pub returns : goal.returns
returns g c = items_at_the_set
