-- The places so far are inside.
use Rattle.std.proofs.Common.{◌≡◌, ℕ, ◌<◌, true, slice_index}
use Rattle.vx_cuts.specs.Interleaving.{is_inside, lists_in}
use Rattle.vx_cuts.proofs.interleaving.first_outside.Given as goal

abbrev pub invariant-loop-k : goal.invariant-loop-k
invariant-loop-k g l = (j : ℕ) → j < l.k → is_inside (lists_in l.lists) (slice_index l.parts j) (slice_index l.rows j) ≡ true
