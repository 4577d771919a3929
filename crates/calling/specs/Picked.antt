-- The row of the source that stands at a row of the answer.
use Rattle.std.specs.Prelude.{◌≡◌, ℕ, List, Option, None, slice_index_or}
use Rattle.vortex_select.specs.RowValue.{RowValue, null}
use Rattle.vortex_select.specs.Picks.{item_at}
use Rattle.vortex_select.specs.Walk.{Walk, walk_fault, walk_picks}

-- the row at pick i: the source's row there, or null where the pick is null or there are no more
abbrev pub row_at_pick : List RowValue → List (Option ℕ) → ℕ → RowValue
row_at_pick rows picks i = item_at null rows (slice_index_or picks i None)

-- no step is broken, and the row is that at pick i
abbrev pub IsPicked : List RowValue → Walk → ℕ → RowValue → Type 0
IsPicked rows (walk_fault k cause) i row = ⊥
IsPicked rows (walk_picks picks) i row = row ≡ row_at_pick rows picks i
