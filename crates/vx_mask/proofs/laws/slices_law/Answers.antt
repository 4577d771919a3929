use Rattle.vx_mask.proofs.AscendingLists.{faultless_slices}
use Rattle.vx_mask.proofs.laws.slices_law.Goals as goal

pub returns : goal.returns
returns c = faultless_slices
