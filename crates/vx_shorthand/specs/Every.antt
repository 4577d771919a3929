-- Takes of every n-th row.
use Rattle.std.specs.Prelude.{◌≡◌, ℕ, ◌*◌, pos, length, List, map, Some}
use Rattle.std.specs.Int.{div_ceil}
use Rattle.std.specs.List.{range_with_len}
use Rattle.std.specs.Option.{option_map}
use Rattle.vx_types.specs.declared.nullability.Nullability.TheVariants.{NonNullable}
use Rattle.vx_pieces.specs.Indices.{IndexValue, index_fault, index_len, index_nullability, index_picks}
use Rattle.vx_pieces.specs.Pieces.{first_from}
use Rattle.vx_pieces.specs.declared.fault.IndexFault.TheVariants.{OutOfBounds}
use Rattle.vx_steps.specs.Step.{StepValue, slice_step, filter_step, filter_by_step, take_step}

-- the rows 0, n, 2 n and so on of so many rows
abbrev pub rows_every : ℕ → ℕ → List ℕ
rows_every n len = map (λ k. k * n) (range_with_len 0 (div_ceil len n))

-- the indices name just these rows, none of them null, and the only thing that can be wrong with
-- them is that one isn't below the number of rows
pub record NameRows (rows : List ℕ) (indices : IndexValue) : Type 0 where
  pub picks : index_picks indices ≡ map (λ row. Some row) rows
  pub len : index_len indices ≡ length rows
  pub nullability : index_nullability indices ≡ NonNullable
  pub fault : (n : ℕ) → index_fault indices n
      ≡ option_map (λ row. OutOfBounds (pos row)) (first_from n rows)

-- the step is a take by such indices
abbrev pub TakesRows : List ℕ → StepValue → Type 0
TakesRows rows (slice_step start end) = ⊥
TakesRows rows (filter_step bits) = ⊥
TakesRows rows (filter_by_step column) = ⊥
TakesRows rows (take_step indices) = NameRows rows indices
