-- The numbers of columns of whole numbers from 0 on, and the pieces that they make.
use Rattle.std.proofs.Common.{◌≡◌, ℕ, zero, suc, ◌<◌, ◌^◌, Bool, true, false, List, [], ◌∷◌, length, get_or, None, Some, refl, sym, ap, ◌∙◌, arith}
use Rattle.std.specs.Prelude.{pos, ◌&&◌, ◌==◌, if◌then◌else◌}
use Rattle.std.specs.Int.{from_le_bytes, sum_through, byte_worth, w8, w16, w32, w64}
use Rattle.std.proofs.lemmas.List.{length-map, get_or-map}
use Rattle.std.proofs.lemmas.Bool.Decides.{Decides-eqb}
use Rattle.vx_types.specs.PType.{number}
use Rattle.vx_types.specs.RowValue.{null}
use Rattle.vx_types.specs.declared.ptype.PType.{PType}
use Rattle.vx_types.specs.declared.ptype.PType.TheVariants.{U8, U16, U32, U64, I8, I16, I32, I64, F16, F32, F64}
use Rattle.vx_types.specs.declared.error.ColumnError.TheVariants.{WrongType, WrongLength}
use Rattle.vx_model.specs.Column.{Column}
use Rattle.vx_model.specs.Numbers.{numbers_of, number_in}
use Rattle.vx_pieces.specs.Pieces.{is_unsigned, is_unsigned_type, natural_of, naturals_of, pieces_by, pieces_of, PiecesParts, pieces_fault, are_unsigned, are_as_long}
use Rattle.vx_pieces.specs.declared.piece.Piece.{Piece}
use Rattle.vx_column.proofs.NumberLists.{number_of_row, length-numbers_of}
use Rattle.std.proofs.lemmas.Bool.{and_parts}

-- what bytes spell
pub spelled_8 : (b : ℕ → ℕ) → ((k : ℕ) → b k < 256) → sum_through (λ i. byte_worth i (b i)) 7 < 2 ^ 64
spelled_8 b h = omega (arith, h 0, h 1, h 2, h 3, h 4, h 5, h 6, h 7)

pub number_fits : (p : PType) (bs : List ℕ) → is_unsigned p ≡ true → ((k : ℕ) → get_or bs k 0 < 256) → (n : ℕ) × (number p bs ≡ pos n) × (n < 2 ^ 64)
number_fits U8 bs u h = (from_le_bytes w8 bs, refl, omega (arith, h 0))
number_fits U16 bs u h = (from_le_bytes w16 bs, refl, omega (arith, h 0, h 1))
number_fits U32 bs u h = (from_le_bytes w32 bs, refl, omega (arith, h 0, h 1, h 2, h 3))
number_fits U64 bs u h = (from_le_bytes w64 bs, refl, spelled_8 (λ k. get_or bs k 0) h)
number_fits I8 bs u h = cc
number_fits I16 bs u h = cc
number_fits I32 bs u h = cc
number_fits I64 bs u h = cc
number_fits F16 bs u h = cc
number_fits F32 bs u h = cc
number_fits F64 bs u h = cc

-- the numbers of a column, one a row
pub length-naturals_of : (c : Column) → length (naturals_of c) ≡ length c.rows
length-naturals_of c = length-map (numbers_of c) natural_of ∙ length-numbers_of c

pub natural_of_row : (c : Column) (i : ℕ) → i < length c.rows → get_or (naturals_of c) i 0 ≡ natural_of (number_in c.dtype.kind (get_or c.rows i null))
natural_of_row c i h = get_or-map natural_of (numbers_of c) i None 0 (omega (arith, length-numbers_of c)) ∙ ap natural_of (number_of_row c i h)

length-pieces_by : (ss ls ms : List ℕ) → length ls ≡ length ss → length ms ≡ length ss → length (pieces_by ss ls ms) ≡ length ss
length-pieces_by [] ls ms h k = refl
length-pieces_by (s ∷ ss) [] ms h k = absurd (omega arith)
length-pieces_by (s ∷ ss) (l ∷ ls) [] h k = absurd (omega arith)
length-pieces_by (s ∷ ss) (l ∷ ls) (m ∷ ms) h k = omega (arith, length-pieces_by ss ls ms (omega arith) (omega arith))

get_or-pieces_by : (ss ls ms : List ℕ) (i : ℕ) (d : Piece) → length ls ≡ length ss → length ms ≡ length ss → i < length ss → get_or (pieces_by ss ls ms) i d ≡ record { start = get_or ss i 0; length = get_or ls i 0; multiplier = get_or ms i 0 }
get_or-pieces_by [] ls ms i d h k l = absurd (omega arith)
get_or-pieces_by (s ∷ ss) [] ms i d h k l = absurd (omega arith)
get_or-pieces_by (s ∷ ss) (x ∷ ls) [] i d h k l = absurd (omega arith)
get_or-pieces_by (s ∷ ss) (x ∷ ls) (m ∷ ms) zero d h k l = refl
get_or-pieces_by (s ∷ ss) (x ∷ ls) (m ∷ ms) (suc i) d h k l = get_or-pieces_by ss ls ms i d (omega arith) (omega arith) (omega arith)

-- what the invariant says of the three columns
pub record AreAligned (p : PiecesParts) : Type 0 where
  pub starts : is_unsigned_type p.starts.dtype ≡ true
  pub lengths : is_unsigned_type p.lengths.dtype ≡ true
  pub multipliers : is_unsigned_type p.multipliers.dtype ≡ true
  pub long_lengths : length p.lengths.rows ≡ length p.starts.rows
  pub long_multipliers : length p.multipliers.rows ≡ length p.starts.rows

types_by : (a b : Bool) → (if a then (if b then None else Some WrongLength) else Some WrongType) ≡ None → (a ≡ true) × (b ≡ true)
types_by true true h = (refl, refl)
types_by true false h = cc
types_by false b h = cc

pub aligned : (p : PiecesParts) → pieces_fault p ≡ None → AreAligned p
aligned p h =
    let t = types_by (are_unsigned p) (are_as_long p) h in
    let types = and_parts (is_unsigned_type p.starts.dtype && is_unsigned_type p.lengths.dtype) (is_unsigned_type p.multipliers.dtype) t.0 in
    let two = and_parts (is_unsigned_type p.starts.dtype) (is_unsigned_type p.lengths.dtype) types.0 in
    let long = and_parts (length p.lengths.rows == length p.starts.rows) (length p.multipliers.rows == length p.starts.rows) t.1 in
    record {
      starts = two.0;
      lengths = two.1;
      multipliers = types.1;
      long_lengths = (Decides-eqb (length p.lengths.rows) (length p.starts.rows)).0 long.0;
      long_multipliers = (Decides-eqb (length p.multipliers.rows) (length p.starts.rows)).0 long.1;
    }

module _ (p : PiecesParts) (sound : pieces_fault p ≡ None) where
  pub length-pieces_of : length (pieces_of p) ≡ length p.starts.rows
  length-pieces_of =
      let a = aligned p sound in
      length-pieces_by (naturals_of p.starts) (naturals_of p.lengths) (naturals_of p.multipliers)
      (length-naturals_of p.lengths ∙ a.long_lengths ∙ sym (length-naturals_of p.starts))
      (length-naturals_of p.multipliers ∙ a.long_multipliers ∙ sym (length-naturals_of p.starts))
      ∙ length-naturals_of p.starts

  pub get_or-pieces_of : (i : ℕ) (d : Piece) → i < length p.starts.rows → get_or (pieces_of p) i d ≡ record { start = get_or (naturals_of p.starts) i 0; length = get_or (naturals_of p.lengths) i 0; multiplier = get_or (naturals_of p.multipliers) i 0 }
  get_or-pieces_of i d h =
      let a = aligned p sound in
      get_or-pieces_by (naturals_of p.starts) (naturals_of p.lengths) (naturals_of p.multipliers) i d
      (length-naturals_of p.lengths ∙ a.long_lengths ∙ sym (length-naturals_of p.starts))
      (length-naturals_of p.multipliers ∙ a.long_multipliers ∙ sym (length-naturals_of p.starts))
      (omega (arith, length-naturals_of p.starts))

-- a number of a piece is one of a row of each column
pub record HasRow (i : ℕ) (p : PiecesParts) : Type 0 where
  pub starts : i < length p.starts.rows
  pub lengths : i < length p.lengths.rows
  pub multipliers : i < length p.multipliers.rows

pub row_of_piece : (s p : PiecesParts) (i : ℕ) → s ≡ p → pieces_fault s ≡ None → i < length (pieces_of p) → HasRow i s
row_of_piece s p i is sound h =
    let a = aligned s sound in
    let within : i < length s.starts.rows = omega (arith, length-pieces_of s sound, ap (λ (q : PiecesParts). length (pieces_of q)) is) in
    record { starts = within; lengths = omega (arith, within, a.long_lengths); multipliers = omega (arith, within, a.long_multipliers) }

pub ruleset naturals = (length-naturals_of, natural_of_row, length-pieces_of)

pub ruleset spelled = (number_fits)
