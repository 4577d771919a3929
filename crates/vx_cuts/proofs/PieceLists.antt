-- The pieces of a run, part by part.
use Rattle.std.proofs.Common.{◌≡◌, ℕ, zero, suc, ◌+◌, ◌-◌, ◌<◌, ◌≤◌, max, min, List, [], ◌∷◌, ◌++◌, length, refl, sym, ap, ◌∙◌, arith, slice_index}
use Rattle.std.specs.List.{flat_map, range_with_len}
use Rattle.std.proofs.lemmas.Bool.Decides.{nat_tests}
use Rattle.std.proofs.lemmas.List.{append_assoc}
use Rattle.std.proofs.lemmas.List.Concat.{flat_map-append, flat_map-cons}
use Rattle.vx_cuts.specs.Bounds.{AreBounds}
use Rattle.vx_cuts.specs.Runs.{piece_if_any, piece_in, pieces_between}
use Rattle.vx_cuts.specs.declared.runs.Piece.{Piece}
use Rattle.vx_cuts.proofs.BoundLists.{rises}
use Rattle.vx_cuts.proofs.RunPieces.{range_joined}

-- ---- lists of what each part has

alike : (f g : ℕ → List Piece) (a n : ℕ) → ((k : ℕ) → a ≤ k → k < a + n → f k ≡ g k) → flat_map f (range_with_len a n) ≡ flat_map g (range_with_len a n)
alike f g a zero so = refl
alike f g a (suc n) so =
    flat_map-cons f a (range_with_len (a + 1) n)
    ∙ ap (λ (l : List Piece). l ++ flat_map f (range_with_len (a + 1) n)) (so a (omega arith) (omega arith))
    ∙ ap (λ (l : List Piece). g a ++ l) (alike f g (a + 1) n (λ k above below. so k (omega arith) (omega arith)))
    ∙ sym (flat_map-cons g a (range_with_len (a + 1) n))

nothing : (f : ℕ → List Piece) (a n : ℕ) → ((k : ℕ) → a ≤ k → k < a + n → f k ≡ []) → flat_map f (range_with_len a n) ≡ []
nothing f a zero so = refl
nothing f a (suc n) so =
    flat_map-cons f a (range_with_len (a + 1) n)
    ∙ ap (λ (l : List Piece). l ++ flat_map f (range_with_len (a + 1) n)) (so a (omega arith) (omega arith))
    ∙ nothing f (a + 1) n (λ k above below. so k (omega arith) (omega arith))

split : (f : ℕ → List Piece) (n k : ℕ) → k < n → flat_map f (range_with_len 0 n) ≡ flat_map f (range_with_len 0 k) ++ (f k ++ flat_map f (range_with_len (k + 1) (n - (k + 1))))
split f n k h =
    let all : range_with_len 0 k ++ range_with_len k (n - k) ≡ range_with_len 0 n = range_joined 0 k (n - k) k n (omega arith) (omega arith) in
    let some : n - k ≡ suc (n - (k + 1)) = omega arith in
    sym (ap (flat_map f) all)
    ∙ flat_map-append f (range_with_len 0 k) (range_with_len k (n - k))
    ∙ ap (λ (m : ℕ). flat_map f (range_with_len 0 k) ++ flat_map f (range_with_len k m)) some
    ∙ ap (λ (l : List Piece). flat_map f (range_with_len 0 k) ++ l) (flat_map-cons f k (range_with_len (k + 1) (n - (k + 1))))

-- ---- a piece, where it has rows

no_piece : (part start len : ℕ) → len ≡ 0 → piece_if_any part start len ≡ []
no_piece part start len e = ap (piece_if_any part start) e

one_piece : (part start len : ℕ) → 0 < len → piece_if_any part start len ≡ (record { part = part; start = start; len = len }) ∷ []
one_piece part start len h = grind (arith, nat_tests)

like_piece : (part start start' len len' : ℕ) → start ≡ start' → len ≡ len' → piece_if_any part start len ≡ piece_if_any part start' len'
like_piece part start start' len len' at long = ap (λ (s : ℕ). piece_if_any part s len) at ∙ ap (piece_if_any part start') long

-- ---- the rows of one part, and those behind them

module _ (bounds : List ℕ) (b : AreBounds bounds) (part at end stop : ℕ) (many : part + 1 < length bounds) (low : slice_index bounds part ≤ at)
    (high : at < slice_index bounds (part + 1)) (some : at < end) (is : stop ≡ min end (slice_index bounds (part + 1))) where
  none_before : (k : ℕ) → 0 ≤ k → k < 0 + part → piece_in bounds at end k ≡ []
  none_before k above below =
      let up = rises b (k + 1) part (omega arith) (omega arith) in
      no_piece k (at - slice_index bounds k) (min end (slice_index bounds (k + 1)) - max at (slice_index bounds k)) (omega (arith, up))

  none_left : (k : ℕ) → k ≤ part → piece_in bounds stop end k ≡ []
  none_left k below =
      let up = rises b (k + 1) (part + 1) (omega arith) (omega arith) in
      no_piece k (stop - slice_index bounds k) (min end (slice_index bounds (k + 1)) - max stop (slice_index bounds k)) (omega (arith, up))

  like_after : (k : ℕ) → part + 1 ≤ k → k < length bounds → piece_in bounds at end k ≡ piece_in bounds stop end k
  like_after k above below =
      let up = rises b (part + 1) k above below in
      let near : max at (slice_index bounds k) ≡ slice_index bounds k = omega (arith, up) in
      let far : max stop (slice_index bounds k) ≡ slice_index bounds k = omega (arith, up) in
      like_piece k (at - slice_index bounds k) (stop - slice_index bounds k) (min end (slice_index bounds (k + 1)) - max at (slice_index bounds k)) (min end (slice_index bounds (k + 1)) - max stop (slice_index bounds k))
      (omega (arith, up)) (ap (λ (x : ℕ). min end (slice_index bounds (k + 1)) - x) (near ∙ sym far))

  abbrev piece : Piece
  piece = record { part = part; start = at - slice_index bounds part; len = stop - at }

  here : piece_in bounds at end part ≡ piece ∷ []
  here =
      let long : min end (slice_index bounds (part + 1)) - max at (slice_index bounds part) ≡ stop - at = omega arith in
      ap (piece_if_any part (at - slice_index bounds part)) long ∙ one_piece part (at - slice_index bounds part) (stop - at) (omega arith)

  abbrev behind : List Piece
  behind = flat_map (piece_in bounds stop end) (range_with_len (part + 1) (length bounds - 1 - (part + 1)))

  all_behind : pieces_between bounds stop end ≡ behind
  all_behind =
      let f = piece_in bounds stop end in
      split f (length bounds - 1) part (omega arith)
      ∙ ap (λ (l : List Piece). l ++ (f part ++ behind)) (nothing f 0 part (λ k above below. none_left k (omega arith)))
      ∙ ap (λ (l : List Piece). l ++ behind) (none_left part (omega arith))

  pub first_piece : pieces_between bounds at end ≡ (record { part = part; start = at - slice_index bounds part; len = stop - at }) ∷ pieces_between bounds stop end
  first_piece =
      let f = piece_in bounds at end in
      let rest = flat_map f (range_with_len (part + 1) (length bounds - 1 - (part + 1))) in
      split f (length bounds - 1) part (omega arith)
      ∙ ap (λ (l : List Piece). l ++ (f part ++ rest)) (nothing f 0 part none_before)
      ∙ ap (λ (l : List Piece). l ++ rest) here
      ∙ ap (λ (l : List Piece). piece ∷ l) (alike f (piece_in bounds stop end) (part + 1) (length bounds - 1 - (part + 1)) (λ k above below. like_after k above (omega arith)))
      ∙ ap (λ (l : List Piece). piece ∷ l) (sym all_behind)

pub no_more : (bounds : List ℕ) (at end : ℕ) → end ≤ at → pieces_between bounds at end ≡ []
no_more bounds at end h = nothing (piece_in bounds at end) 0 (length bounds - 1) (λ k above below. no_piece k (at - slice_index bounds k) (min end (slice_index bounds (k + 1)) - max at (slice_index bounds k)) (omega arith))

-- one piece more of those that are to come
pub push_first : (base before after : List Piece) (piece : Piece) (rest : List Piece) → before ++ (piece ∷ rest) ≡ base → after ≡ before ++ piece ∷ [] → after ++ rest ≡ base
push_first base before after piece rest so e = ap (λ (l : List Piece). l ++ rest) e ∙ append_assoc before (piece ∷ []) rest ∙ so
