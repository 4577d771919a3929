use Rattle.std.proofs.Common.{ℕ, ◌<◌}
use Rattle.vx_words.specs.Takes.{IsPast}
use Rattle.vx_words.proofs.take.search_past.Given as goal

abbrev pub invariant-loop-k : goal.invariant-loop-k
invariant-loop-k l = (j : ℕ) → j < l.k → IsPast l.bound l.indices l.valid j → ⊥
