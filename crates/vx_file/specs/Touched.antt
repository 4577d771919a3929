-- The blocks that hold picked rows.
use Rattle.std.specs.Prelude.{◌≡◌, ℕ, ◌+◌, ◌/◌, ◌<◌, Bool, false, true, List, [], ◌∷◌, Option, None, Some, ◌==◌, length, slice_index_or, slice_set, if◌then◌else◌}
use Rattle.std.specs.Int.{div_ceil}
use Rattle.std.specs.List.{flat_map, list_any, range_with_len}
use Rattle.vx_take.specs.Picks.{BoundedPicks}
use Rattle.vx_steps.specs.Step.{StepValue}
use Rattle.vx_steps.specs.Walk.{Walk, walk, walk_fault, walk_picks}

-- how many blocks hold n rows, 1024 to a block
abbrev pub blocks_for : ℕ → ℕ
blocks_for n = div_ceil n 1024

-- whether a pick is one of the rows from row `1024 * k` on
abbrev pub lies_in : ℕ → Option ℕ → Bool
lies_in k None = false
lies_in k (Some p) = p / 1024 == k

-- the block of these rows, where one of them is picked
abbrev pub block_of_rows : Bool → ℕ → List ℕ
block_of_rows picked k = if picked then (k + 1) ∷ [] else []

-- the blocks of the first `1024 * n` rows that hold a picked row, each once, ascending
unfoldable pub blocks_touched : List (Option ℕ) → ℕ → List ℕ
blocks_touched picks n =
    flat_map (λ k. block_of_rows (list_any (lies_in k) picks) k) (range_with_len 0 n)

-- how many blocks picks touch
abbrev pub touched_count : BoundedPicks → ℕ
touched_count picks = length (blocks_touched picks.picks (blocks_for picks.bound))

-- the composed picks; none where a step is broken
abbrev pub picks_by : Walk → List (Option ℕ)
picks_by (walk_fault k cause) = []
picks_by (walk_picks picks) = picks

-- those of steps over so many rows
abbrev pub picks_of_steps : ℕ → List StepValue → BoundedPicks
picks_of_steps len steps = record { picks = picks_by (walk len steps); bound = len }

-- the marks of blocks, and that of a picked row turned on
abbrev pub with_mark : List Bool → Option ℕ → List Bool
with_mark marks None = marks
with_mark marks (Some p) = slice_set marks (p / 1024) true

-- there are n marks, and each says whether a row of its block is picked
pub record AreMarked (marks : List Bool) (picks : List (Option ℕ)) (n : ℕ) : Type 0 where
  pub long : length marks ≡ n
  pub each : (k : ℕ) → k < n → slice_index_or marks k false ≡ list_any (lies_in k) picks
