-- The items so far.
use Rattle.std.proofs.Common.{◌≡◌, ℕ, ◌<◌, get_or}
use Rattle.vx_cuts.specs.Interleaving.{item_at, lists_in}
use Rattle.vx_cuts.proofs.interleaving.put_items.Given as goal

abbrev pub invariant-loop-k : goal.invariant-loop-k
invariant-loop-k g l = (j : ℕ) → j < l.k → get_or l.dst j l.fill ≡ item_at l.fill (lists_in l.lists) l.parts l.rows j
