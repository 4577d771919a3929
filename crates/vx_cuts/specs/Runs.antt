-- Runs of rows of the whole, and pieces of parts.
use Rattle.std.specs.Prelude.{ℕ, ◌+◌, ◌-◌, ◌<◌, ◌≤◌, max, min, length, List, [], ◌∷◌, nat_lt, slice_index, if◌then◌else◌}
use Rattle.std.specs.List.{flat_map, range_with_len}
use Rattle.vx_cuts.specs.declared.runs.Piece.{Piece}

-- the positions of the whole that are in pieces of parts, which begin at these bounds
abbrev pub piece_places : List ℕ → List Piece → List ℕ
piece_places bounds pieces = flat_map
    (λ (piece : Piece). range_with_len (slice_index bounds piece.part + piece.start) piece.len)
    pieces

-- a piece lies in its part
pub record IsPieceOf (bounds : List ℕ) (piece : Piece) : Type 0 where
  pub part : piece.part + 1 < length bounds
  pub within : slice_index bounds piece.part + piece.start + piece.len
      ≤ slice_index bounds (piece.part + 1)

-- a piece of so many rows, none where there are no rows
abbrev pub piece_if_any : ℕ → ℕ → ℕ → List Piece
piece_if_any part start len =
    if nat_lt 0 len then (record { part = part; start = start; len = len }) ∷ [] else []

-- the piece of part k that the rows from `start` up to `end` of the whole are
abbrev pub piece_in : List ℕ → ℕ → ℕ → ℕ → List Piece
piece_in bounds start end k = piece_if_any k (start - slice_index bounds k)
    (min end (slice_index bounds (k + 1)) - max start (slice_index bounds k))

-- the pieces that these rows are, one for each part that has some of them, in the parts' order
abbrev pub pieces_between : List ℕ → ℕ → ℕ → List Piece
pieces_between bounds start end =
    flat_map (piece_in bounds start end) (range_with_len 0 (length bounds - 1))

-- the pieces that runs are, each its start and its length, in the order of the runs
abbrev pub pieces_of_runs : List ℕ → List (ℕ × ℕ) → List Piece
pieces_of_runs bounds runs =
    flat_map (λ (run : ℕ × ℕ). pieces_between bounds run.0 (run.0 + run.1)) runs
