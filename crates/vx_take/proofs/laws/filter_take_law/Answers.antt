use Rattle.vx_take.proofs.TakenLists.{set_ascends, take_at_the_set}
use Rattle.vx_take.proofs.laws.filter_take_law.Goals as goal

pub returns-clause-ascend : goal.returns-clause-ascend
returns-clause-ascend g c = set_ascends

pub returns-clause-items : goal.returns-clause-items
returns-clause-items g c = λ bits items h missing. take_at_the_set missing bits items h
