-- The nodes so far break no rule.
use Rattle.std.proofs.Common.{◌≡◌, ℕ, ◌<◌, None}
use Rattle.vx_arrow_image.specs.Image.{parts_of}
use Rattle.vx_arrow_strict.specs.Strict.{flaw_at}
use Rattle.vx_arrow_strict.proofs.strict.first_flaw.Given as goal

abbrev pub invariant-loop-k : goal.invariant-loop-k
invariant-loop-k l = (j : ℕ) → j < l.k → flaw_at (parts_of l.nodes) l.extras j ≡ None
