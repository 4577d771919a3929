-- Takes of every n-th row, as one piece.
use Rattle.std.proofs.Common.{◌≡◌, ℕ, ◌+◌, ◌-◌, ◌*◌, ◌^◌, ◌<◌, ◌≤◌, Bool, true, false, List, [], ◌∷◌, map, refl, sym, subst, ap, ◌∙◌, arith, zero, suc, zero-add}
use Rattle.std.specs.Prelude.{ℤ, Option, Some, pos, nat_le, ◌==◌, ◌||◌, ◌&&◌, if◌then◌else◌}
use Rattle.std.specs.Int.{div_ceil}
use Rattle.std.specs.List.{flat_map, list_all, range_with_len}
use Rattle.std.specs.Option.{option_map}
use Rattle.std.proofs.lemmas.Bool.{le-leb}
use Rattle.std.proofs.lemmas.Grind.{div_ceil_times}
use Rattle.std.proofs.lemmas.List.{append-nil}
use Rattle.std.proofs.lemmas.List.FromFn.{length-map-range_with_len}
use Rattle.vx_model.specs.Column.{Column}
use Rattle.vx_model.specs.Numbers.{numbers_of}
use Rattle.vx_pieces.specs.Indices.{by_pieces}
use Rattle.vx_pieces.specs.Pieces.{PiecesParts, expand, first_from, greatest_index, is_sound, is_sound_piece, natural_of, naturals_of, piece_numbers, pieces_by, pieces_of, pieces_parts, total_length}
use Rattle.vx_pieces.specs.declared.fault.IndexFault.TheVariants.{BadPieces, OutOfBounds}
use Rattle.vx_shorthand.specs.Every.{NameRows, rows_every}

multiples : (n : ℕ) (xs : List ℕ) → map (λ j. 0 + j * n) xs ≡ map (λ j. j * n) xs
multiples n [] = refl
multiples n (x ∷ xs) = ap (λ y. y ∷ map (λ j. 0 + j * n) xs) (zero-add (x * n)) ∙ ap (λ ys. x * n ∷ ys) (multiples n xs)

-- the last number isn't above the rows
last_within : (k n len : ℕ) → k * n < len + n → (k - 1) * n ≤ len
last_within zero n len h = omega arith
last_within (suc k) n len h =
    let e : suc k - 1 ≡ k = omega arith in
    rw e (omega (arith, h))

or_true : (b : Bool) → (b || true) ≡ true
or_true true = refl
or_true false = refl

same : (a : ℕ) → (a == a) ≡ true
same a = grind arith

-- the piece from 0 on, whose last number is at most the rows
is_sound_ramp : (k n len : ℕ) → k * n < len + n → len < 2 ^ 64 → ((k == 0) || nat_le (0 + (k - 1) * n) greatest_index) ≡ true
is_sound_ramp k n len h small =
    let last : (k - 1) * n ≤ len = last_within k n len h in
    let within : 0 + (k - 1) * n ≤ greatest_index = omega (arith, last, small) in
    ap (λ b. (k == 0) || b) (le-leb (0 + (k - 1) * n) greatest_index within) ∙ or_true (k == 0)

module _ (s l m : Column) (k n len : ℕ) (es : numbers_of s ≡ Some (pos 0) ∷ []) (el : numbers_of l ≡ Some (pos k) ∷ []) (em : numbers_of m ≡ Some (pos n) ∷ []) where
  one_piece : pieces_of (pieces_parts s l m k) ≡ pieces_by (0 ∷ []) (k ∷ []) (n ∷ [])
  one_piece =
      ap (λ (zs : List (Option ℤ)). pieces_by (map natural_of zs) (naturals_of l) (naturals_of m)) es
      ∙ ap (λ (zs : List (Option ℤ)). pieces_by (0 ∷ []) (map natural_of zs) (naturals_of m)) el
      ∙ ap (λ (zs : List (Option ℤ)). pieces_by (0 ∷ []) (k ∷ []) (map natural_of zs)) em

  all_rows : expand (pieces_parts s l m k) ≡ map (λ j. j * n) (range_with_len 0 k)
  all_rows =
      ap (flat_map piece_numbers) one_piece
      ∙ append-nil (map (λ j. 0 + j * n) (range_with_len 0 k))
      ∙ multiples n (range_with_len 0 k)

  sound : k * n < len + n → len < 2 ^ 64 → k < 2 ^ 64 → is_sound (pieces_parts s l m k) ≡ true
  sound h small few =
      let piece : ((k == 0) || nat_le (0 + (k - 1) * n) greatest_index) ≡ true = is_sound_ramp k n len h small in
      let counted : 0 + k ≡ k = omega arith in
      let bounded : nat_le k greatest_index ≡ true = le-leb k greatest_index (omega (arith, few)) in
      ap (λ ps. list_all is_sound_piece ps && (nat_le (total_length ps) greatest_index && (total_length ps == k))) one_piece
      ∙ ap (λ b. (b && true) && (nat_le (0 + k) greatest_index && ((0 + k) == k))) piece
      ∙ ap (λ t. nat_le t greatest_index && (t == k)) counted
      ∙ ap (λ b. b && (k == k)) bounded
      ∙ same k

  names_ramp : k * n < len + n → len < 2 ^ 64 → k < 2 ^ 64 → NameRows (map (λ j. j * n) (range_with_len 0 k)) (by_pieces (pieces_parts s l m k))
  names_ramp h small few = record {
    picks = ap (map (λ x. Some x)) all_rows;
    len = sym (length-map-range_with_len (λ j. j * n) 0 k);
    nullability = refl;
    fault = λ rows.
        ap (λ b. if b then option_map (λ x. OutOfBounds (pos x)) (first_from rows (expand (pieces_parts s l m k))) else Some BadPieces) (sound h small few)
        ∙ ap (λ (xs : List ℕ). option_map (λ x. OutOfBounds (pos x)) (first_from rows xs)) all_rows;
  }

-- of so many rows
pub names_rows : (s l m : Column) (n len k : ℕ) (p : PiecesParts) → 0 < n → len < 2 ^ 64 → k < 2 ^ 64 → k ≡ div_ceil len n → numbers_of s ≡ Some (pos 0) ∷ [] → numbers_of l ≡ Some (pos k) ∷ [] → numbers_of m ≡ Some (pos n) ∷ [] → p ≡ pieces_parts s l m k → NameRows (rows_every n len) (by_pieces p)
names_rows s l m n len k p some small few count es el em parts =
    let h : k * n < len + n = subst (λ (j : ℕ). j * n < len + n) (sym count) (div_ceil_times len n some).1 in
    let by_count : NameRows (map (λ j. j * n) (range_with_len 0 k)) (by_pieces (pieces_parts s l m k)) = names_ramp s l m k n len es el em h small few in
    let of_parts : NameRows (map (λ j. j * n) (range_with_len 0 k)) (by_pieces p) = subst (λ (q : PiecesParts). NameRows (map (λ j. j * n) (range_with_len 0 k)) (by_pieces q)) (sym parts) by_count in
    subst (λ (j : ℕ). NameRows (map (λ x. x * n) (range_with_len 0 j)) (by_pieces p)) count of_parts
