-- Lists of indices: what a take by them picks, and why it can't.
use Rattle.std.specs.Prelude.{ℕ, pos, length, List, map, Option, None, Some, if◌then◌else◌}
use Rattle.std.specs.Option.{option_map}
use Rattle.vx_types.specs.TypeTree.{is_int_type}
use Rattle.vx_types.specs.declared.nullability.Nullability.{Nullability}
use Rattle.vx_types.specs.declared.nullability.Nullability.TheVariants.{NonNullable}
use Rattle.vx_positions.specs.Positions.{first_bad, positions_of}
use Rattle.vx_model.specs.Column.{Column}
use Rattle.vx_model.specs.Numbers.{numbers_of}
use Rattle.vx_pieces.specs.Pieces.{PiecesParts, is_sound, expand, first_from}
use Rattle.vx_pieces.specs.Runs.{contiguous_runs}
use Rattle.vx_pieces.specs.declared.fault.IndexFault.{IndexFault}
use Rattle.vx_pieces.specs.declared.fault.IndexFault.TheVariants.{InvalidIndices, BadPieces, OutOfBounds}
use Rattle.vx_pieces.specs.declared.indices.Indices.{Indices}
use Rattle.vx_pieces.specs.declared.indices.Indices.TheVariants.{Array, Pieces}

-- what a contract sees of `Indices`
pub data IndexValue : Type 0 where
  -- the numbers of a column
  by_column : Column → IndexValue
  -- the numbers of a piecewise sequence, none of them null
  by_pieces : PiecesParts → IndexValue

abbrev pub index_value : Indices → IndexValue
index_value (Array c) = by_column c
index_value (Pieces p) = by_pieces p

-- why a take by the numbers of a column from n rows isn't one, the first that holds
abbrev pub column_fault : Column → ℕ → Option IndexFault
column_fault c n =
    if is_int_type c.dtype then option_map OutOfBounds (first_bad n (numbers_of c))
    else Some InvalidIndices

-- why a take by the numbers of a sequence from n rows isn't one: that it isn't sound comes before
-- any number of it
abbrev pub sequence_fault : PiecesParts → ℕ → Option IndexFault
sequence_fault p n =
    if is_sound p then option_map (λ x. OutOfBounds (pos x)) (first_from n (expand p))
    else Some BadPieces

abbrev pub index_fault : IndexValue → ℕ → Option IndexFault
index_fault (by_column c) n = column_fault c n
index_fault (by_pieces p) n = sequence_fault p n

-- the positions that they name, none at a null
abbrev pub index_picks : IndexValue → List (Option ℕ)
index_picks (by_column c) = positions_of (numbers_of c)
index_picks (by_pieces p) = map (λ x. Some x) (expand p)

-- the runs that they name, where they are runs: of a sequence whose multipliers are a constant 1
abbrev pub index_runs : IndexValue → Option (List (ℕ × ℕ))
index_runs (by_column c) = None
index_runs (by_pieces p) = contiguous_runs p

-- how many indices there are said to be: as many as picks, where there is no fault
abbrev pub index_len : IndexValue → ℕ
index_len (by_column c) = length c.rows
index_len (by_pieces p) = p.len

-- whether a take by them may leave nulls
abbrev pub index_nullability : IndexValue → Nullability
index_nullability (by_column c) = c.dtype.nullability
index_nullability (by_pieces p) = NonNullable
