-- The numbers so far are 0.
use Rattle.std.proofs.Common.{◌≡◌, ℕ, ◌<◌, get_or}
use Rattle.vx_arrow_interleave.proofs.text_views.start_anew.Given as goal

abbrev pub invariant-loop-j : goal.invariant-loop-j
invariant-loop-j l = (i : ℕ) → i < l.j → get_or l.starts i 0 ≡ 0
