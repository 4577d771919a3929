use Rattle.std.proofs.Common.{ℕ, ◌<◌, ◌^◌, get_or}
use Rattle.vx_words.proofs.take.are_below.Given as goal

abbrev pub invariant-loop-index : goal.invariant-loop-index
invariant-loop-index l = l.signs < 2 ^ 63 → (j : ℕ) → j < l.index-index → get_or l.indices j 0 < l.bound
