-- The clear bits so far were counted.
use Rattle.std.proofs.Common.{◌≡◌, ℕ, ◌+◌, ◌≤◌, Bool, not}
use Rattle.vx_arrow_image.specs.Image.{is_valid}
use Rattle.vx_arrow_strict.proofs.Counts.{count_to}
use Rattle.vx_arrow_strict.proofs.nulls.clear_bits.Given as goal

pub record IsCounted (f : ℕ → Bool) (start len i count : ℕ) : Type 0 where
  pub few : count + start ≤ i
  pub counted : count ≡ count_to f start len i

abbrev pub invariant-loop-i : goal.invariant-loop-i
invariant-loop-i l = IsCounted (λ j. not (is_valid l.valid j)) l.start l.len l.i l.count
