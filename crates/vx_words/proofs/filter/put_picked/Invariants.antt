use Rattle.vx_words.proofs.PickedRows.{IsPicked}
use Rattle.vx_words.proofs.filter.put_picked.Given as goal

abbrev pub invariant-loop-i : goal.invariant-loop-i
invariant-loop-i g l = IsPicked l.src l.mask l.initial.dst l.dst l.kept l.i
