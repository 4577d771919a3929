use Rattle.vx_mask.proofs.AscendingLists.{faultless_indices}
use Rattle.vx_mask.proofs.laws.indices_law.Goals as goal

pub returns : goal.returns
returns c = faultless_indices
