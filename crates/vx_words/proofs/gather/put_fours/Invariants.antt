use Rattle.std.proofs.Common.{◌*◌}
use Rattle.vx_words.specs.Takes.{IsFront}
use Rattle.vx_words.proofs.gather.put_fours.Given as goal

abbrev pub invariant-loop-four : goal.invariant-loop-four
invariant-loop-four g l = IsFront l.fill l.src l.indices l.valid l.initial.dst l.dst (4 * l.four)
