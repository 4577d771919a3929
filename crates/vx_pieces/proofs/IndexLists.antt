-- How many picks there are, and columns whose numbers name some.
use Rattle.std.proofs.Common.{◌≡◌, ℕ, ℤ, ◌+◌, Bool, true, false, List, [], ◌∷◌, length, length-append, Option, None, Some, refl, sym, ap, ◌∙◌}
use Rattle.std.specs.Prelude.{◌&&◌, ◌==◌, nat_le, if◌then◌else◌}
use Rattle.std.specs.List.{flat_map, list_all}
use Rattle.std.specs.Option.{option_map}
use Rattle.std.proofs.lemmas.List.{length-map}
use Rattle.std.proofs.lemmas.List.Sums.{sum_by-cons}
use Rattle.std.proofs.lemmas.Bool.Decides.{Decides-eqb}
use Rattle.vx_types.specs.TypeTree.{is_int_type}
use Rattle.vx_model.specs.Column.{Column}
use Rattle.vx_model.specs.Numbers.{numbers_of}
use Rattle.vx_positions.specs.Positions.{first_bad, position_of}
use Rattle.vx_pieces.specs.Indices.{IndexValue, by_column, by_pieces, column_fault, index_fault, index_len, index_picks, sequence_fault}
use Rattle.vx_pieces.specs.Pieces.{PiecesParts, expand, greatest_index, is_sound, is_sound_piece, piece_numbers, pieces_of, total_length}
use Rattle.vx_pieces.specs.declared.fault.IndexFault.{IndexFault}
use Rattle.vx_pieces.specs.declared.fault.IndexFault.TheVariants.{BadPieces, InvalidIndices, OutOfBounds}
use Rattle.vx_pieces.specs.declared.piece.Piece.{Piece}
use Rattle.vx_column.proofs.NumberLists.{length-numbers_of}
use Rattle.vx_pieces.proofs.PieceNumbers.{length-piece_numbers}
use Rattle.std.proofs.lemmas.Bool.{and_parts}

numbers_of_pieces : (ps : List Piece) → length (flat_map piece_numbers ps) ≡ total_length ps
numbers_of_pieces [] = refl
numbers_of_pieces (p ∷ ps) =
    length-append (piece_numbers p) (flat_map piece_numbers ps) ∙ ap (λ n. n + length (flat_map piece_numbers ps)) (length-piece_numbers p)
    ∙ ap (λ n. p.length + n) (numbers_of_pieces ps) ∙ sym (sum_by-cons (λ (p : Piece). p.length) p ps)

-- a sound sequence has as many numbers as declared
pub length-expand : (p : PiecesParts) → is_sound p ≡ true → length (expand p) ≡ p.len
length-expand p h =
    let totals = (and_parts (list_all is_sound_piece (pieces_of p)) (nat_le (total_length (pieces_of p)) greatest_index && (total_length (pieces_of p) == p.len)) h).1 in
    let same = (and_parts (nat_le (total_length (pieces_of p)) greatest_index) (total_length (pieces_of p) == p.len) totals).1 in
    numbers_of_pieces (pieces_of p) ∙ (Decides-eqb (total_length (pieces_of p)) p.len).0 same

pub sound_by : (p : PiecesParts) (n : ℕ) → sequence_fault p n ≡ None → is_sound p ≡ true
sound_by p n h = by (is_sound p) _ h
  where
    by : (b : Bool) (x : Option IndexFault) → (if b then x else Some BadPieces) ≡ None → b ≡ true
    by true x e = refl
    by false x e = cc

-- a column of integers, none of which is past the rows
pub no_column_fault : (c : Column) (n : ℕ) → is_int_type c.dtype ≡ true → first_bad n (numbers_of c) ≡ None → column_fault c n ≡ None
no_column_fault c n int none = rw (int, none) refl

-- and the other way round
pub fault_int : (c : Column) (n : ℕ) → column_fault c n ≡ None → is_int_type c.dtype ≡ true
fault_int c n h = by (is_int_type c.dtype) _ h
  where
    by : (b : Bool) (x : Option IndexFault) → (if b then x else Some InvalidIndices) ≡ None → b ≡ true
    by true x e = refl
    by false x e = cc

pub fault_sound : (c : Column) (n : ℕ) → column_fault c n ≡ None → first_bad n (numbers_of c) ≡ None
fault_sound c n h = by (is_int_type c.dtype) (first_bad n (numbers_of c)) h
  where
    by : (b : Bool) (x : Option ℤ) → (if b then option_map OutOfBounds x else Some InvalidIndices) ≡ None → x ≡ None
    by true None e = refl
    by true (Some z) e = cc
    by false x e = cc

pub ruleset faultless = (fault_int, fault_sound)

-- where there is no fault, there are as many picks as indices
pub length-index_picks : (v : IndexValue) (n : ℕ) → index_fault v n ≡ None → length (index_picks v) ≡ index_len v
length-index_picks (by_column c) n h = length-map (numbers_of c) (option_map position_of) ∙ length-numbers_of c
length-index_picks (by_pieces p) n h = length-map (expand p) (λ (x : ℕ). Some x) ∙ length-expand p (sound_by p n h)

pub ruleset counts = (length-index_picks)
