use Rattle.vx_steps.proofs.Cuts.{slice_range-slice_range}
use Rattle.vx_steps.proofs.laws.slice_of_slice.Goals as goal

pub returns : goal.returns
returns g c = slice_range-slice_range c.args.items.now
