-- The numbers of a list of pieces, one piece more.
use Rattle.std.proofs.Common.{◌≡◌, ℕ, ◌+◌, ◌<◌, Bool, true, false, List, [], ◌∷◌, ◌++◌, length, take, drop, get_or, Option, None, Some, refl, sym, ap, ◌∙◌}
use Rattle.std.specs.Prelude.{map, is_some}
use Rattle.std.specs.List.{flat_map, list_all}
use Rattle.std.specs.Option.{option_or}
use Rattle.std.proofs.lemmas.List.{drop_more, take_more, append-nil, take-append-drop}
use Rattle.std.proofs.lemmas.List.Concat.{flat_map-append}
use Rattle.std.proofs.lemmas.List.Folds.{find-append, list_all_at}
use Rattle.vx_positions.specs.Positions.{AllThere}
use Rattle.vx_pieces.specs.Pieces.{first_from, is_sound_piece, piece_numbers}
use Rattle.vx_pieces.specs.declared.piece.Piece.{Piece}

-- where the first of two has none, neither has one
pub none_of_two : (a b : Option ℕ) → option_or a b ≡ None → (a ≡ None) × (b ≡ None)
none_of_two None b e = (refl, e)
none_of_two (Some x) b e = cc

module _ (ps : List Piece) (i : ℕ) (q : Piece) (h : i < length ps) (is : q ≡ get_or ps i q) where
  pub rest_cut : drop i ps ≡ q ∷ drop (i + 1) ps
  rest_cut = drop_more ps i q h ∙ ap (λ r. r ∷ drop (i + 1) ps) (sym is)

  pub front_more : take (i + 1) ps ≡ take i ps ++ q ∷ []
  front_more = take_more ps i q h ∙ ap (λ r. take i ps ++ r ∷ []) (sym is)

  pub numbers_rest : flat_map piece_numbers (drop i ps) ≡ piece_numbers q ++ flat_map piece_numbers (drop (i + 1) ps)
  numbers_rest = ap (flat_map piece_numbers) rest_cut

  pub numbers_more : flat_map piece_numbers (take (i + 1) ps) ≡ flat_map piece_numbers (take i ps) ++ piece_numbers q
  numbers_more = ap (flat_map piece_numbers) front_more ∙ flat_map-append piece_numbers (take i ps) (q ∷ []) ∙ ap (λ l. flat_map piece_numbers (take i ps) ++ l) (append-nil (piece_numbers q))

  -- each piece is sound
  pub sound_here : list_all is_sound_piece ps ≡ true → is_sound_piece q ≡ true
  sound_here all = by (is_sound_piece q) refl
    where
      by : (b : Bool) → is_sound_piece q ≡ b → b ≡ true
      by true e = refl
      by false e = let no : list_all is_sound_piece ps ≡ false = list_all_at is_sound_piece ps i q h (ap is_sound_piece (sym is) ∙ e) in cc

  module _ (n : ℕ) where
    -- the first number is in this piece, or behind it
    pub first_rest : first_from n (flat_map piece_numbers (drop i ps)) ≡ option_or (first_from n (piece_numbers q)) (first_from n (flat_map piece_numbers (drop (i + 1) ps)))
    first_rest = ap (first_from n) numbers_rest ∙ find-append _ (piece_numbers q) (flat_map piece_numbers (drop (i + 1) ps))

    -- where no number is too great, none of this piece is
    pub none_here : first_from n (flat_map piece_numbers ps) ≡ None → first_from n (piece_numbers q) ≡ None
    none_here none =
        let parts : flat_map piece_numbers ps ≡ flat_map piece_numbers (take i ps) ++ flat_map piece_numbers (drop i ps) = ap (flat_map piece_numbers) (sym (take-append-drop i ps)) ∙ flat_map-append piece_numbers (take i ps) (drop i ps) in
        let behind = none_of_two (first_from n (flat_map piece_numbers (take i ps))) (first_from n (flat_map piece_numbers (drop i ps)))
        (sym (ap (first_from n) parts ∙ find-append _ (flat_map piece_numbers (take i ps)) (flat_map piece_numbers (drop i ps))) ∙ none) in
        (none_of_two (first_from n (piece_numbers q)) (first_from n (flat_map piece_numbers (drop (i + 1) ps))) (sym first_rest ∙ behind.1)).0

pub found_here : (found rest : Option ℕ) → is_some found ≡ true → found ≡ option_or found rest
found_here None rest h = cc
found_here (Some x) rest h = refl

pub found_behind : (found rest : Option ℕ) → is_some found ≡ false → option_or found rest ≡ rest
found_behind None rest h = refl
found_behind (Some x) rest h = cc

-- none of the picks is a null
pub all_there-numbers : (numbers : List ℕ) → AllThere (map (λ x. Some x) numbers)
all_there-numbers [] = refl
all_there-numbers (x ∷ numbers) = all_there-numbers numbers

pub ruleset there = (all_there-numbers)
