use Rattle.vx_mask.proofs.RankedItems.{filters_join}
use Rattle.vx_mask.proofs.laws.filters_law.Goals as goal

pub returns : goal.returns
returns g c = filters_join
