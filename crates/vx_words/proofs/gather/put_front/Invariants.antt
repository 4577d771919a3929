use Rattle.vx_words.specs.Takes.{IsFront}
use Rattle.vx_words.proofs.gather.put_front.Given as goal

abbrev pub invariant-loop-k : goal.invariant-loop-k
invariant-loop-k g l = IsFront l.fill l.src l.indices l.valid l.fn.dst l.dst l.k
