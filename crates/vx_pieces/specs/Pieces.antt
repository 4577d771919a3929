-- Piecewise sequences: pieces of unsigned integers, the numbers of a piece a fixed distance apart.
use Rattle.std.specs.Prelude.{ℕ, ◌+◌, ◌-◌, ◌*◌, ◌^◌, ◌==◌, ◌&&◌, ◌||◌, nat_le, ℤ, unsigned_abs, length, List, [], ◌∷◌, map, find, sum_by, Bool, false, not, Option, Some, None, Result, Ok, Err, if◌then◌else◌, refl}
use Rattle.std.specs.List.{flat_map, list_all, range_with_len}
use Rattle.std.specs.Int.{w64, to_le_bytes}
use Rattle.std.specs.Coded.{Coded, code_by, coded×, coded_ℕ}
use Rattle.vx_types.specs.PType.{is_int, is_signed}
use Rattle.vx_types.specs.Nullability.{is_nullable}
use Rattle.vx_types.specs.TypeTree.{TypeKind, TypeTree, primitive_kind}
use Rattle.vx_types.specs.declared.ptype.PType.{PType}
use Rattle.vx_types.specs.declared.ptype.PType.TheVariants.{U64}
use Rattle.vx_types.specs.declared.error.ColumnError.{ColumnError}
use Rattle.vx_types.specs.declared.error.ColumnError.TheVariants.{WrongType, WrongLength}
use Rattle.vx_model.specs.Column.{Column}
use Rattle.vx_model.specs.ColumnCode.{coded_column}
use Rattle.vx_model.specs.Numbers.{numbers_of}
use Rattle.vx_model.specs.Records.{records_column}
use Rattle.vx_model.specs.Valid.{non_nullable}
use Rattle.vx_pieces.specs.declared.piece.Piece.{Piece}
use Rattle.vx_pieces.specs.declared.error.PiecesError.{PiecesError}
use Rattle.vx_pieces.specs.declared.error.PiecesError.TheVariants.{BadPieces, Overflow, PastEnd}

-- what a contract sees of a `PiecewiseSequence`
pub record PiecesParts : Type 0 where
  pub starts : Column
  pub lengths : Column
  pub multipliers : Column
  -- the declared length
  pub len : ℕ

abbrev pub pieces_parts : Column → Column → Column → ℕ → PiecesParts
pieces_parts starts lengths multipliers len =
    record { starts = starts; lengths = lengths; multipliers = multipliers; len = len }

-- ---- why three columns are no sequence

-- an unsigned type
abbrev pub is_unsigned : PType → Bool
is_unsigned p = is_int p && not (is_signed p)

abbrev pub is_unsigned_kind : TypeKind → Bool
is_unsigned_kind (primitive_kind p) = is_unsigned p
is_unsigned_kind k = false

-- a non-nullable one
abbrev pub is_unsigned_type : TypeTree → Bool
is_unsigned_type t = is_unsigned_kind t.kind && not (is_nullable t.nullability)

abbrev pub are_unsigned : PiecesParts → Bool
are_unsigned p =
    (is_unsigned_type p.starts.dtype && is_unsigned_type p.lengths.dtype)
    && is_unsigned_type p.multipliers.dtype

abbrev pub are_as_long : PiecesParts → Bool
are_as_long p =
    (length p.lengths.rows == length p.starts.rows)
    && (length p.multipliers.rows == length p.starts.rows)

-- the first that holds
abbrev pub pieces_fault : PiecesParts → Option ColumnError
pieces_fault p =
    if are_unsigned p then (if are_as_long p then None else Some WrongLength) else Some WrongType

-- ---- the pieces

-- the integer in a row of a column of such a type
abbrev pub natural_of : Option ℤ → ℕ
natural_of None = 0
natural_of (Some z) = unsigned_abs z

abbrev pub naturals_of : Column → List ℕ
naturals_of c = map natural_of (numbers_of c)

abbrev pub pieces_by : List ℕ → List ℕ → List ℕ → List Piece
pieces_by (s ∷ ss) (l ∷ ls) (m ∷ ms) =
    record { start = s; length = l; multiplier = m } ∷ pieces_by ss ls ms
pieces_by (s ∷ ss) (l ∷ ls) [] = []
pieces_by (s ∷ ss) [] ms = []
pieces_by [] ls ms = []

abbrev pub pieces_of : PiecesParts → List Piece
pieces_of p = pieces_by (naturals_of p.starts) (naturals_of p.lengths) (naturals_of p.multipliers)

-- ---- the numbers that they stand for

-- number j of a piece
abbrev pub piece_number : Piece → ℕ → ℕ
piece_number p j = p.start + j * p.multiplier

-- its numbers, one for each j below its length
abbrev pub piece_numbers : Piece → List ℕ
piece_numbers p = map (piece_number p) (range_with_len 0 p.length)

-- the numbers of the pieces, one piece after another
abbrev pub expand : PiecesParts → List ℕ
expand p = flat_map piece_numbers (pieces_of p)

-- ---- soundness

-- `usize::MAX`
abbrev pub greatest_index : ℕ
greatest_index = 2 ^ 64 - 1

-- its last number, where it has any, is at most `usize::MAX`
abbrev pub is_sound_piece : Piece → Bool
is_sound_piece p = (p.length == 0) || nat_le (piece_number p (p.length - 1)) greatest_index

-- how many numbers pieces have
abbrev pub total_length : List Piece → ℕ
total_length pieces = sum_by (λ p. p.length) pieces

-- each piece is sound, and the pieces have as many numbers as declared, which `usize` can count
abbrev pub is_sound : PiecesParts → Bool
is_sound p =
    list_all is_sound_piece (pieces_of p)
    && (nat_le (total_length (pieces_of p)) greatest_index
    && (total_length (pieces_of p) == p.len))

-- the one fault that a sequence can have
abbrev pub sound_fault : PiecesParts → Option PiecesError
sound_fault p = if is_sound p then None else Some BadPieces

-- ---- answers

-- the number, where there is one and it is at most `usize::MAX`
abbrev pub scalar_of : Option ℕ → Result ℕ PiecesError
scalar_of None = Err PastEnd
scalar_of (Some x) = if nat_le x greatest_index then Ok x else Err Overflow

-- the first number that is at least n
abbrev pub first_from : ℕ → List ℕ → Option ℕ
first_from n numbers = find (nat_le n) numbers

-- the column of type `u64` of these numbers, none of them null
abbrev pub numbers_column : List ℕ → Column
numbers_column numbers =
    records_column
    (record {
      kind = primitive_kind U64;
      width = 8;
      records = map (to_le_bytes w64) numbers;
      valid = non_nullable;
    })

-- ---- their code
abbrev pub coded_pieces : Coded PiecesParts
coded_pieces =
    code_by ((Column × Column) × (Column × ℕ))
    (coded× (coded× coded_column coded_column) (coded× coded_column coded_ℕ))
    (λ p. ((p.starts, p.lengths), (p.multipliers, p.len)))
    (λ f. record { starts = f.0.0; lengths = f.0.1; multipliers = f.1.0; len = f.1.1 })
    (λ _. refl)
