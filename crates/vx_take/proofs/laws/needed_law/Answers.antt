use Rattle.vx_take.proofs.NeededBits.{each_set, ranked_back}
use Rattle.vx_take.proofs.TakenLists.{looked_up, one_rank}
use Rattle.vx_take.proofs.laws.needed_law.Goals as goal

pub returns-clause-each : goal.returns-clause-each
returns-clause-each g c = each_set

pub returns-clause-one_rank : goal.returns-clause-one_rank
returns-clause-one_rank g c = one_rank

pub returns-clause-looked_up : goal.returns-clause-looked_up
returns-clause-looked_up g c = λ bits items picks h set missing. looked_up missing bits items picks h set

pub returns-clause-ranked_back : goal.returns-clause-ranked_back
returns-clause-ranked_back g c = ranked_back
