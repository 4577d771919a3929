-- The first place of a row that passes, step by step.
use Rattle.std.proofs.Common.{◌≡◌, ℕ, ◌+◌, ◌-◌, ◌<◌, ◌≤◌, Bool, true, false, cond, List, [], ◌∷◌, length, drop, Option, None, Some, refl, sym, ◌∙◌, ap, subst, arith, slice_index, length-drop, inl, inr, replicate, set, get_or-set_other, get_or-set_same}
use Rattle.std.specs.Prelude.{slice_index_or}
use Rattle.std.specs.Option.{unwrap_or}
use Rattle.std.specs.Cmp.{IsEquivalence}
use Rattle.std.proofs.lemmas.List.{at_drop_more, at_drop_all, get_or_default, length-replicate, get_or-replicate, length-set}
use native.Mathlib.Nat.{eq-or-lt_of_le}
use Rattle.vx_join.specs.Chains.{keys_match, first_from, first_match, AreLinked}

module _ {K : Type 0} (same : K → K → Bool) where
  -- a row without a key has no next row
  none_from : (at : ℕ) (rows : List (Option K)) → first_from (keys_match same None) at rows ≡ at + length rows
  none_from at [] = omega arith
  none_from at (x ∷ rows) = none_from (at + 1) rows ∙ omega arith

module _ {K : Type 0} (same : K → K → Bool) (rows : List (Option K)) where
  pub no_match : (j : ℕ) → j ≤ length rows → first_match same rows None j ≡ length rows
  no_match j h =
      let e : length (drop j rows) ≡ length rows - j = length-drop j rows in
      none_from same j (drop j rows) ∙ omega arith

  -- the next row is this one, or the one behind it
  pub match_here : (row : Option K) (j : ℕ) → j < length rows → first_match same rows row j ≡ cond (keys_match same row (slice_index_or rows j None)) j (first_match same rows row (j + 1))
  match_here row j h = at_drop_more (first_from (keys_match same row) j) rows j None h

  -- there is none behind the last row
  pub match_end : (row : Option K) → first_match same rows row (length rows) ≡ length rows
  match_end row = at_drop_all (first_from (keys_match same row) (length rows)) rows (length rows) (omega arith)

unwrap_cond : (b : Bool) (o : Option ℕ) (j n : ℕ) → unwrap_or (cond b (Some j) o) n ≡ cond b j (unwrap_or o n)
unwrap_cond true o j n = refl
unwrap_cond false o j n = refl

-- none is linked yet
pub linked_none : {K : Type 0} (same : K → K → Bool) (rows : List (Option K)) (first : K → Option ℕ) (links : List ℕ)
    → ((q : K) → first q ≡ None) → links ≡ replicate (length rows) (length rows)
    → AreLinked same rows (length rows) first links
linked_none same rows first links none same_links =
    record {
      len = ap length same_links ∙ length-replicate (length rows) (length rows);
      first_of = λ q. ap (λ o. unwrap_or o (length rows)) (none q) ∙ sym (match_end same rows (Some q));
      next_of = λ k low high. absurd (omega arith);
      unlinked = λ k h. ap (λ l. slice_index l k) same_links ∙ get_or-replicate (length rows) k (length rows) 0 h;
    }

module _ {K : Type 0} {same : K → K → Bool} (laws : IsEquivalence same) (rows : List (Option K)) (p next : ℕ) (step : p + 1 ≡ next) (below : p < length rows) (d : Option K) (first : K → Option ℕ) (links : List ℕ) (before : AreLinked same rows next first links) where
  here : (row : Option K) → slice_index_or rows p d ≡ row → (q : Option K) → first_match same rows q p ≡ cond (keys_match same q row) p (first_match same rows q next)
  here row e q =
      let e2 : slice_index_or rows p None ≡ row = get_or_default rows p None d below ∙ e in
      match_here same rows q p below
      ∙ ap (λ x. cond (keys_match same q x) p (first_match same rows q (p + 1))) e2
      ∙ ap (λ n. cond (keys_match same q row) p (first_match same rows q n)) step

  -- a link for this row
  next_more : (row : Option K) → slice_index_or rows p d ≡ row → (links2 : List ℕ)
      → ((k : ℕ) → p < k → slice_index links2 k ≡ slice_index links k)
      → slice_index links2 p ≡ first_match same rows row next
      → (k : ℕ) → p ≤ k → k < length rows → slice_index links2 k ≡ first_match same rows (slice_index_or rows k None) (k + 1)
  next_more row e links2 others this k low high =
      let e2 : slice_index_or rows p None ≡ row = get_or_default rows p None d below ∙ e in
      elim (eq-or-lt_of_le low) [
        | inl s ↦ subst (λ (n : ℕ). slice_index links2 n ≡ first_match same rows (slice_index_or rows n None) (n + 1)) s
            (this ∙ sym (ap (λ x. first_match same rows x (p + 1)) e2 ∙ ap (first_match same rows row) step))
        | inr s ↦ others k s ∙ before.next_of k (omega arith) high
      ]

  -- a row without a key
  pub linked_null : slice_index_or rows p d ≡ None → AreLinked same rows p first links
  linked_null e =
      record {
        len = before.len;
        first_of = λ q. before.first_of q ∙ sym (here None e (Some q));
        next_of = next_more None e links (λ k _. refl) (before.unlinked p (omega arith) ∙ sym (no_match same rows next (omega arith)));
        unlinked = λ k h. before.unlinked k (omega arith);
      }

  module _ (key : K) (e : slice_index_or rows p d ≡ Some key) (first2 : K → Option ℕ) (update : (q : K) → first2 q ≡ cond (same key q) (Some p) (first q)) where
    first_more : (q : K) → unwrap_or (first2 q) (length rows) ≡ first_match same rows (Some q) p
    first_more q =
        ap (λ o. unwrap_or o (length rows)) (update q)
        ∙ unwrap_cond (same key q) (first q) p (length rows)
        ∙ ap (λ n. cond (same key q) p n) (before.first_of q)
        ∙ ap (λ b. cond b p (first_match same rows (Some q) next)) (laws.symm key q)
        ∙ sym (here (Some key) e (Some q))

    -- the last row of its key
    pub linked_last : first key ≡ None → AreLinked same rows p first2 links
    linked_last none =
        record {
          len = before.len;
          first_of = first_more;
          next_of = next_more (Some key) e links (λ k _. refl)
              (before.unlinked p (omega arith) ∙ sym (ap (λ o. unwrap_or o (length rows)) none) ∙ before.first_of key);
          unlinked = λ k h. before.unlinked k (omega arith);
        }

    -- a row with a later one of its key
    pub linked_more : (later : ℕ) → first key ≡ Some later → AreLinked same rows p first2 (set links p later)
    linked_more later some =
        record {
          len = length-set links p later ∙ before.len;
          first_of = first_more;
          next_of = next_more (Some key) e (set links p later)
              (λ k h. get_or-set_other links p k later 0 (omega arith))
              (get_or-set_same links p later 0 (omega (arith, before.len)) ∙ sym (ap (λ o. unwrap_or o (length rows)) some) ∙ before.first_of key);
          unlinked = λ k h. get_or-set_other links p k later 0 (omega arith) ∙ before.unlinked k (omega arith);
        }
