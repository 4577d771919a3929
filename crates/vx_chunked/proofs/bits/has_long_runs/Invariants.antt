use Rattle.vx_chunked.proofs.bits.has_long_runs.Given as goal

abbrev pub invariant-loop-word : goal.invariant-loop-word
invariant-loop-word l = Unit {0}
