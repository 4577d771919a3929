use Rattle.vx_mask.proofs.PositionLists.{ranks_ascend, ranks_are_the_set}
use Rattle.vx_mask.proofs.laws.rank_law.Goals as goal

pub returns-clause-ascend : goal.returns-clause-ascend
returns-clause-ascend c = ranks_ascend

pub returns-clause-the_set : goal.returns-clause-the_set
returns-clause-the_set c = ranks_are_the_set
