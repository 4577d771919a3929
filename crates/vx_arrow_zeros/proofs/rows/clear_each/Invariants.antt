use Rattle.std.proofs.Common.{◌≡◌, ℕ, ◌<◌, ◌||◌, eqb}
use Rattle.std.specs.Int.{bit_at}
use Rattle.vx_arrow_zeros.specs.Zeros.{ClearsRows}
use Rattle.vx_arrow_zeros.proofs.rows.clear_each.Given as goal

-- the rows at the bits that are left aren't cleared yet
abbrev pub invariant-loop-left : goal.invariant-loop-left
invariant-loop-left l = record {
  cleared : ClearsRows (λ k. eqb (bit_at l.word k) 1 || eqb (bit_at l.left k) 1) l.start 64 l.width l.initial.values l.values;
  apart : (k : ℕ) → k < 64 → bit_at l.left k ≡ 1 → bit_at l.word k ≡ 0;
}

abbrev pub decreases-loop-left : goal.decreases-loop-left
decreases-loop-left l = l.left
