-- So many lists so far, each empty.
use Rattle.std.proofs.Common.{◌≡◌, ℕ, [], length}
use Rattle.vx_arrow_interleave.specs.TextViews.{list_at}
use Rattle.vx_arrow_interleave.proofs.text_views.empty_lists.Given as goal

abbrev pub invariant-loop : goal.invariant-loop
invariant-loop l = record {
  many : length l.lists.items ≡ l.counter;
  empty : (j : ℕ) → list_at l.lists.items j ≡ [];
}
