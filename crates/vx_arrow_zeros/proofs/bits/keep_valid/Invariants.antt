use Rattle.std.proofs.Common.{◌≡◌, ℕ, ◌<◌, ◌≤◌, bit_and, get_or}
use Rattle.vx_arrow_zeros.proofs.bits.keep_valid.Given as goal

abbrev pub invariant-loop-k : goal.invariant-loop-k
invariant-loop-k l = record {
  kept : (j : ℕ) → j < l.k → get_or l.bits j 0 ≡ bit_and (get_or l.initial.bits j 0) (get_or l.valid j 0);
  behind : (j : ℕ) → l.k ≤ j → get_or l.bits j 0 ≡ get_or l.initial.bits j 0;
}
