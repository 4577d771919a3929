use Rattle.vx_take.proofs.TakenLists.{take_of_filter}
use Rattle.vx_take.proofs.laws.translated_law.Goals as goal

pub returns : goal.returns
returns g c = λ bits items ranks h below missing. take_of_filter missing bits items ranks h below
