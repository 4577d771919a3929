use Rattle.vx_bitfilter.proofs.SparseBits.{HoldsFirst}
use Rattle.vx_bitfilter.proofs.sparse.word_of.Given as goal

abbrev pub invariant-loop-k : goal.invariant-loop-k
invariant-loop-k l = HoldsFirst l.src.bits l.places l.word l.k
