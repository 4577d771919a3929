use Rattle.vx_take.proofs.TakenLists.{takes_join}
use Rattle.vx_take.proofs.laws.takes_law.Goals as goal

pub returns : goal.returns
returns g c = λ items picks later missing. takes_join missing items picks later
