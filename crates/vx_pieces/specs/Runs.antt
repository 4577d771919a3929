-- Piecewise sequences whose numbers follow each other without a gap in each piece.
use Rattle.std.specs.Prelude.{ℕ, ◌==◌, ◌&&◌, List, filter_map, Bool, false, Option, Some, None, if◌then◌else◌}
use Rattle.vx_types.specs.RowValue.{RowValue}
use Rattle.vx_types.specs.TypeTree.{TypeTree}
use Rattle.vx_model.specs.Numbers.{number_in}
use Rattle.vx_model.specs.Plain.{is_constant_layout}
use Rattle.vx_pieces.specs.Pieces.{PiecesParts, natural_of, pieces_of, sound_fault}
use Rattle.vx_pieces.specs.declared.piece.Piece.{Piece}
use Rattle.vx_pieces.specs.declared.error.PiecesError.{PiecesError}

-- there is a value, and it is the number 1
abbrev pub is_one : TypeTree → Option RowValue → Bool
is_one t None = false
is_one t (Some x) = natural_of (number_in t.kind x) == 1

-- the multipliers are a column of layout `Constant`, of value 1
abbrev pub is_constant_one : PiecesParts → Bool
is_constant_one p =
    is_constant_layout p.multipliers.layout && is_one p.multipliers.dtype p.multipliers.constant

-- a piece that has numbers: where it starts, and how many they are
abbrev pub run_of : Piece → Option (ℕ × ℕ)
run_of p = if p.length == 0 then None else Some (p.start, p.length)

abbrev pub runs_of : List Piece → List (ℕ × ℕ)
runs_of pieces = filter_map run_of pieces

-- the runs of the pieces, where each piece is one
abbrev pub contiguous_runs : PiecesParts → Option (List (ℕ × ℕ))
contiguous_runs p = if is_constant_one p then Some (runs_of (pieces_of p)) else None

-- the one fault of runs
abbrev pub runs_fault : PiecesParts → Option PiecesError
runs_fault p = if is_constant_one p then sound_fault p else None
