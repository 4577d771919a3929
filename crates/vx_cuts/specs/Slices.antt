-- A slice of the whole, as each part's own.
use Rattle.std.specs.Prelude.{◌≡◌, ◌≢◌, ℕ, ◌-◌, ◌==◌, ◌&&◌, min, List, length, map, nat_le, slice_index, if◌then◌else◌}
use Rattle.std.specs.List.{range_with_len, sum}
use Rattle.vx_cuts.specs.Bounds.{bounds_of}
use Rattle.vx_cuts.specs.Runs.{piece_places}
use Rattle.vx_cuts.specs.declared.runs.Piece.{Piece}

-- a row of the whole, as one of part k, as far as the part goes
abbrev pub row_in : List ℕ → ℕ → ℕ → ℕ
row_in lengths row k = min (row - slice_index (bounds_of lengths) k) (slice_index lengths k)

-- how many rows lie between two of part k
abbrev pub left_in : List ℕ → List ℕ → ℕ → ℕ
left_in starts ends k = slice_index ends k - slice_index starts k

-- 5 where the slice begins past its end or ends past the rows, else 0
abbrev pub slice_fault : List ℕ → ℕ → ℕ → ℕ
slice_fault lengths start end = if nat_le start end && nat_le end (sum lengths) then 0 else 5

-- 1 where the lists are not all of one length, else 5 where the slice begins past its end or ends
-- past the rows, else 0
abbrev pub cut_fault : List ℕ → ℕ → ℕ → ℕ → ℕ → ℕ → ℕ
cut_fault lengths start end starts ends left =
    if starts == length lengths && ends == length lengths && left == length lengths
    then slice_fault lengths start end else 1

-- the rows that each part keeps, from these on, so many
abbrev pub pieces_of : List ℕ → List ℕ → List Piece
pieces_of starts left = map
    (λ k. record { part = k; start = slice_index starts k; len = slice_index left k })
    (range_with_len 0 (length starts))

-- each part's own start, end and number of rows are written; or the call was refused and the lists
-- are as they were
pub record IsSliceCut (lengths : List ℕ) (start end : ℕ) (old_starts starts old_ends ends old_left
    left : List ℕ) (status value : ℕ) : Type 0 where
  pub fault : status
      ≡ cut_fault lengths start end (length old_starts) (length old_ends) (length old_left)
  pub untold : value ≡ 0
  pub starts_are : status ≡ 0
      → starts ≡ map (row_in lengths start) (range_with_len 0 (length lengths))
  pub ends_are : status ≡ 0 → ends ≡ map (row_in lengths end) (range_with_len 0 (length lengths))
  pub left_is : status ≡ 0
      → left ≡ map (left_in starts ends) (range_with_len 0 (length lengths))
  -- what the parts keep are the slice's rows, in their order
  pub rows : status ≡ 0 → piece_places (bounds_of lengths) (pieces_of starts left)
      ≡ range_with_len start (end - start)
  pub refused : status ≢ 0 → (starts ≡ old_starts) × (ends ≡ old_ends) × (left ≡ old_left)
