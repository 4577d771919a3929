-- What is found along a chain, and row by row on the left.
use Rattle.std.proofs.Common.{◌≡◌, ℕ, suc, ◌+◌, ◌-◌, ◌<◌, ◌≤◌, Bool, true, false, cond, List, [], ◌∷◌, ◌++◌, length, map, drop, get_or, Option, None, Some, take, refl, sym, ◌∙◌, ap, ap₂, arith, append_assoc, length-drop}
use Rattle.std.specs.Prelude.{slice_index_or}
use Rattle.std.specs.Cmp.{IsEquivalence}
use Rattle.std.proofs.lemmas.List.{at_drop_more, get_or_default, get_or-drop, drop-drop, map-append, map-id, take_all, take_more}
use Rattle.std.proofs.lemmas.Simd.{map-map}
use Rattle.vx_join.specs.Chains.{keys_match, first_from, first_match, AreLinked}
use Rattle.vx_join.specs.Pairs.{positions_from, pairs_from, lefts, rights}

-- nothing passes between `at` and f, and f passes unless it is the end
record IsFirst {X : Type 0} (test : X → Bool) (at : ℕ) (xs : List X) (f : ℕ) : Type 0 where
  after : at ≤ f
  same : positions_from test at xs ≡ positions_from test f (drop (f - at) xs)
  passes : (d : X) → f < at + length xs → test (get_or xs (f - at) d) ≡ true

module _ {X : Type 0} (test : X → Bool) where
  first_here : (at : ℕ) (x : X) (xs : List X) → test x ≡ true → IsFirst test at (x ∷ xs) at
  first_here at x xs e =
      let z : at - at ≡ 0 = omega arith in
      record {
        after = omega arith;
        same = ap (λ (n : ℕ). positions_from test at (drop n (x ∷ xs))) (sym z);
        passes = λ d h. ap (λ (n : ℕ). test (get_or (x ∷ xs) n d)) z ∙ e;
      }

  first_later : (at : ℕ) (x : X) (xs : List X) (f : ℕ) → test x ≡ false → IsFirst test (at + 1) xs f → IsFirst test at (x ∷ xs) f
  first_later at x xs f e rest =
      let low : at + 1 ≤ f = rest.after in
      let z : f - at ≡ suc (f - (at + 1)) = omega arith in
      record {
        after = omega arith;
        same =
            ap (λ b. cond b (at ∷ positions_from test (at + 1) xs) (positions_from test (at + 1) xs)) e
            ∙ rest.same
            ∙ ap (λ (n : ℕ). positions_from test f (drop n (x ∷ xs))) (sym z);
        passes = λ d h. ap (λ (n : ℕ). test (get_or (x ∷ xs) n d)) z ∙ rest.passes d (omega arith);
      }

  first_by : (b : Bool) (at : ℕ) (x : X) (xs : List X) (f : ℕ) → test x ≡ b → IsFirst test (at + 1) xs f → IsFirst test at (x ∷ xs) (cond b at f)
  first_by true at x xs f e rest = first_here at x xs e
  first_by false at x xs f e rest = first_later at x xs f e rest

  first_is : (at : ℕ) (xs : List X) → IsFirst test at xs (first_from test at xs)
  first_is at [] =
      let z : at - at ≡ 0 = omega arith in
      record {
        after = omega arith;
        same = ap (λ (n : ℕ). positions_from test at (drop n [])) (sym z);
        passes = λ d h. absurd (omega arith);
      }
  first_is at (x ∷ xs) = first_by (test x) at x xs (first_from test (at + 1) xs) refl (first_is (at + 1) xs)

-- the first match from `at` on in a whole list of rows
module _ {K : Type 0} (same : K → K → Bool) (rows : List (Option K)) (row : Option K) (at : ℕ) where
  pub match_after : at ≤ first_match same rows row at
  match_after = (first_is (keys_match same row) at (drop at rows)).after

  pub match_skips : positions_from (keys_match same row) at (drop at rows) ≡ positions_from (keys_match same row) (first_match same rows row at) (drop (first_match same rows row at) rows)
  match_skips =
      let f = first_match same rows row at in
      let low : at ≤ f = match_after in
      let z : at + (f - at) ≡ f = omega arith in
      (first_is (keys_match same row) at (drop at rows)).same
      ∙ ap (positions_from (keys_match same row) f) (drop-drop (f - at) at rows ∙ ap (λ (n : ℕ). drop n rows) z)

  pub match_passes : first_match same rows row at < length rows → keys_match same row (slice_index_or rows (first_match same rows row at) None) ≡ true
  match_passes h =
      let f = first_match same rows row at in
      let low : at ≤ f = match_after in
      let z : at + (f - at) ≡ f = omega arith in
      let len : length (drop at rows) ≡ length rows - at = length-drop at rows in
      ap (keys_match same row) (ap (λ (n : ℕ). slice_index_or rows n None) (sym z) ∙ sym (get_or-drop at rows (f - at) None))
      ∙ (first_is (keys_match same row) at (drop at rows)).passes None (omega arith)

-- rows of one key have the same matches
module _ {K : Type 0} {same : K → K → Bool} (laws : IsEquivalence same) (key : K) where
  same_matches : (row : Option K) → keys_match same (Some key) row ≡ true → (x : Option K) → keys_match same row x ≡ keys_match same (Some key) x
  same_matches None e x = absurd (cc)
  same_matches (Some k) e None = refl
  same_matches (Some k) e (Some q) = sym (laws.congr key k q e)

  module _ (rows : List (Option K)) (first : K → Option ℕ) (links : List ℕ) (linked : AreLinked same rows 0 first links) (j : ℕ) (inside : j < length rows) (matched : keys_match same (Some key) (slice_index_or rows j None) ≡ true) (to d : ℕ) (is : to ≡ slice_index_or links j d) where
    -- the link leads to the next row of the key
    pub link_is : to ≡ first_match same rows (Some key) (j + 1)
    link_is =
        let e = same_matches (slice_index_or rows j None) matched in
        is ∙ get_or_default links j d 0 (omega (arith, linked.len)) ∙ linked.next_of j (omega arith) inside ∙ ap (λ t. first_from t (j + 1) (drop (j + 1) rows)) (λ i x. e x i)

    pub link_after : j < to
    link_after =
        let low = match_after same rows (Some key) (j + 1) in
        omega (arith, link_is)

    pub link_passes : to < length rows → keys_match same (Some key) (slice_index_or rows (to) None) ≡ true
    link_passes h = rw link_is (match_passes same rows (Some key) (j + 1) (omega (arith, link_is)))

    -- this row, and then those from the link on
    pub link_positions : positions_from (keys_match same (Some key)) j (drop j rows) ≡ j ∷ positions_from (keys_match same (Some key)) (to) (drop (to) rows)
    link_positions =
        let test = keys_match same (Some key) in
        at_drop_more (positions_from test j) rows j None inside
        ∙ ap (λ b. cond b (j ∷ positions_from test (j + 1) (drop (j + 1) rows)) (positions_from test (j + 1) (drop (j + 1) rows))) matched
        ∙ ap (λ (ps : List ℕ). j ∷ ps) (match_skips same rows (Some key) (j + 1) ∙ sym (ap (λ n. positions_from test n (drop n rows)) link_is))

    -- what was put out, and what is left
    pub right_more : (out start : List ℕ) → out ++ positions_from (keys_match same (Some key)) j (drop j rows) ≡ start
        → (out ++ j ∷ []) ++ positions_from (keys_match same (Some key)) (to) (drop (to) rows) ≡ start
    right_more out start h = rw append_assoc (ap (λ ps. out ++ ps) (sym link_positions) ∙ h)

    pub left_more : (i : ℕ) (out start : List ℕ) → out ++ map (λ _. i) (positions_from (keys_match same (Some key)) j (drop j rows)) ≡ start
        → (out ++ i ∷ []) ++ map (λ _. i) (positions_from (keys_match same (Some key)) (to) (drop (to) rows)) ≡ start
    left_more i out start h = rw append_assoc (ap (λ ps. out ++ map (λ _. i) ps) (sym link_positions) ∙ h)

-- ---- a number a row

module _ {X : Type 0} (f : X → ℕ) (xs : List X) (i : ℕ) where
  pub map_more : (d : X) (ys now : List ℕ) (y : ℕ) → i < length xs → ys ≡ map f (take i xs) → {x : X} → f (get_or xs i d) ≡ f x → y ≡ f x → now ≡ ys ++ y ∷ [] → now ≡ map f (take (i + 1) xs)
  map_more d ys now y inside before here is more =
      more ∙ ap₂ (λ l n. l ++ n ∷ []) before (is ∙ sym here)
      ∙ sym (ap (map f) (take_more xs i d inside) ∙ map-append f (take i xs) (get_or xs i d ∷ []))

  pub map_all : (ys : List ℕ) → length xs ≤ i → ys ≡ map f (take i xs) → ys ≡ map f xs
  map_all ys h e = e ∙ ap (map f) (take_all i xs h)

-- ---- row by row on the left

module _ {K : Type 0} (same : K → K → Bool) where
  pub none_matches : (at : ℕ) (rows : List (Option K)) → positions_from (keys_match same None) at rows ≡ []
  none_matches at [] = refl
  none_matches at (x ∷ rows) = none_matches (at + 1) rows

  -- the pairs from row i on are those of row i, and those of the rest
  module _ (left right : List (Option K)) (i : ℕ) (d : Option K) (inside : i < length left) (row : Option K) (e : slice_index_or left i d ≡ row) where
    pairs_here : pairs_from (keys_match same) i (drop i left) right ≡ map (λ j. (i, j)) (positions_from (keys_match same row) 0 right) ++ pairs_from (keys_match same) (i + 1) (drop (i + 1) left) right
    pairs_here =
        at_drop_more (λ xs. pairs_from (keys_match same) i xs right) left i d inside
        ∙ ap (λ (r : Option K). map (λ j. (i, j)) (positions_from (keys_match same r) 0 right) ++ pairs_from (keys_match same) (i + 1) (drop (i + 1) left) right) e

    lefts_here : lefts (pairs_from (keys_match same) i (drop i left) right) ≡ map (λ _. i) (positions_from (keys_match same row) 0 right) ++ lefts (pairs_from (keys_match same) (i + 1) (drop (i + 1) left) right)
    lefts_here = ap lefts pairs_here ∙ map-append (λ (p : ℕ × ℕ). p.0) _ _ ∙ ap (λ ps. ps ++ lefts (pairs_from (keys_match same) (i + 1) (drop (i + 1) left) right)) (map-map (λ (p : ℕ × ℕ). p.0) (λ (j : ℕ). (i, j)) (positions_from (keys_match same row) 0 right))

    rights_here : rights (pairs_from (keys_match same) i (drop i left) right) ≡ positions_from (keys_match same row) 0 right ++ rights (pairs_from (keys_match same) (i + 1) (drop (i + 1) left) right)
    rights_here = ap rights pairs_here ∙ map-append (λ (p : ℕ × ℕ). p.1) _ _ ∙ ap (λ ps. ps ++ rights (pairs_from (keys_match same) (i + 1) (drop (i + 1) left) right)) (map-map (λ (p : ℕ × ℕ). p.1) (λ (j : ℕ). (i, j)) (positions_from (keys_match same row) 0 right) ∙ map-id (positions_from (keys_match same row) 0 right))

    pub lefts_more : (out out2 all : List ℕ) → out ++ lefts (pairs_from (keys_match same) i (drop i left) right) ≡ all
        → out2 ≡ out ++ map (λ _. i) (positions_from (keys_match same row) 0 right)
        → out2 ++ lefts (pairs_from (keys_match same) (i + 1) (drop (i + 1) left) right) ≡ all
    lefts_more out out2 all h u = rw u (rw append_assoc (ap (λ ps. out ++ ps) (sym lefts_here) ∙ h))

    pub rights_more : (out out2 all : List ℕ) → out ++ rights (pairs_from (keys_match same) i (drop i left) right) ≡ all
        → out2 ≡ out ++ positions_from (keys_match same row) 0 right
        → out2 ++ rights (pairs_from (keys_match same) (i + 1) (drop (i + 1) left) right) ≡ all
    rights_more out out2 all h u = rw u (rw append_assoc (ap (λ ps. out ++ ps) (sym rights_here) ∙ h))
