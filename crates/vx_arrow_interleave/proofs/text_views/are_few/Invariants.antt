-- The lists so far have few rows.
use Rattle.std.proofs.Common.{ℕ, ◌<◌, ◌^◌, length}
use Rattle.vx_arrow_interleave.specs.TextViews.{list_at}
use Rattle.vx_arrow_interleave.proofs.text_views.are_few.Given as goal

abbrev pub invariant-loop-j : goal.invariant-loop-j
invariant-loop-j l = (j : ℕ) → j < l.j → length (list_at l.lists.items j) < 2 ^ 31
