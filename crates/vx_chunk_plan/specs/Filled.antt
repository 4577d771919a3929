-- Outputs that are filled chunk by chunk, in any order.
use Rattle.std.specs.Prelude.{◌≡◌, ℕ, ◌+◌, ◌*◌, ◌/◌, ◌<◌, Contains, List, [], ◌∷◌, length, Option, Some, None, slice_index_or, take, true}
use Rattle.std.specs.Option.{option_map}
use Rattle.vx_chunk_plan.specs.Faults.{first_row, rows_in}
use Rattle.vx_chunk_plan.specs.Picks.{has_null, is_told, picks_in, picks_of}
use Rattle.vx_chunk_plan.specs.Rows.{answer, picked_row, row_at}

-- what the row of a pick is written with: the chunk in which the pick lies, or the zeros of nulls
abbrev pub home_of : ℕ → Option ℕ → Option ℕ
home_of chunk_len pick = option_map (λ p. p / chunk_len) pick

-- these bytes begin with those of the rows of chunk k
pub record IsChunk (width len chunk_len k : ℕ) (rows : List (List ℕ)) (chunk : List ℕ)
    : Type 0 where
  pub each : (i : ℕ) → i < rows_in len chunk_len k
      → row_at width chunk i ≡ slice_index_or rows (first_row chunk_len k + i) []

-- each pick has its row, if what that is written with is done
pub record IsFilled (width chunk_len : ℕ) (rows : List (List ℕ)) (picks : List (Option ℕ))
    (done : List (Option ℕ)) (out : List ℕ) : Type 0 where
  pub each : (j : ℕ) → j < length picks
      → Contains done (home_of chunk_len (slice_index_or picks j None))
      → row_at width out j ≡ picked_row width rows (slice_index_or picks j None)

-- the nulls are done, if there are some, and each chunk in which a pick lies
pub record AreAllDone (chunk_len : ℕ) (picks : List (Option ℕ)) (done : List (Option ℕ))
    : Type 0 where
  pub nulls : has_null picks ≡ true → Contains done None
  pub chunks : (k : ℕ) → is_told chunk_len picks k ≡ true → Contains done (Some k)

-- a chunk that is scattered is done, whatever was done before, and what was done stays so
abbrev pub ChunkIsDone
    : ℕ → ℕ → ℕ → ℕ → List ℕ → List ℕ → List ℕ → List ℕ → List ℕ → Type 0
ChunkIsDone width len chunk_len k places order chunk old new =
    (rows : List (List ℕ)) (valid : List ℕ) (done : List (Option ℕ))
    → IsChunk width len chunk_len k rows chunk
    → order ≡ picks_in chunk_len (picks_of places valid) k
    → IsFilled width chunk_len rows (picks_of places valid) done old
    → IsFilled width chunk_len rows (picks_of places valid) (Some k ∷ done) new

-- so are nulls that are filled
abbrev pub NullsAreDone : ℕ → List ℕ → ℕ → List ℕ → List ℕ → Type 0
NullsAreDone width valid count old new =
    (chunk_len : ℕ) (rows : List (List ℕ)) (places : List ℕ) (done : List (Option ℕ))
    → length places ≡ count
    → IsFilled width chunk_len rows (picks_of places valid) done old
    → IsFilled width chunk_len rows (picks_of places valid) (None ∷ done) new

-- before anything is done an output is filled as far
abbrev pub NoneIsDone : ℕ → ℕ → List ℕ → List ℕ → List ℕ → Type 0
NoneIsDone width chunk_len places valid out =
    (rows : List (List ℕ)) → IsFilled width chunk_len rows (picks_of places valid) [] out

-- where all is done, the output is the rows at the picks, zeros at a null
abbrev pub AllIsAnswer : ℕ → ℕ → List ℕ → List ℕ → List ℕ → Type 0
AllIsAnswer width chunk_len places valid out =
    (rows : List (List ℕ)) (done : List (Option ℕ))
    → AreAllDone chunk_len (picks_of places valid) done
    → IsFilled width chunk_len rows (picks_of places valid) done out
    → take (length places * width) out ≡ answer width rows (picks_of places valid)
