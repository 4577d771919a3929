-- Places of rows among those of their variants, counted one by one.
use Rattle.std.proofs.Common.{◌≡◌, ◌≢◌, ℕ, ◌+◌, ◌<◌, Bool, true, false, List, [], ◌∷◌, ◌++◌, length, get_or, set, take, replicate, Option, None, Some, refl, sym, ap, ap₂, subst, ◌∙◌, arith, append_assoc, zero-add}
use Rattle.std.specs.Prelude.{◌==◌, cond, IfSome}
use Rattle.std.specs.List.{count_by}
use Rattle.std.proofs.lemmas.Bool.Decides.{nat_tests}
use Rattle.std.proofs.lemmas.List.{append-nil, get_or-replicate, get_or-set_other, get_or-set_same, take_more}
use Rattle.std.proofs.lemmas.List.Sums.{sum_by-append}
use Rattle.vx_interleave.specs.Tags.{AreCounts, counted, is_tag, next_place, place_after, places_after}

pub no-counts : AreCounts [] (replicate 256 0)
no-counts id h = get_or-replicate 256 id 0 0 h

-- one more of an id
count-more : (id : ℕ) (tags : List (Option ℕ)) (t : Option ℕ) → count_by (is_tag id) (tags ++ t ∷ []) ≡ count_by (is_tag id) tags + cond (is_tag id t) 1 0
count-more id tags t =
    sum_by-append (λ (u : Option ℕ). cond (is_tag id u) 1 0) tags (t ∷ [])
    ∙ ap (λ n. count_by (is_tag id) tags + n) (zero-add (cond (is_tag id t) 1 0))

counts-more : (tags : List (Option ℕ)) (t : Option ℕ) (counts : List ℕ) → length counts ≡ 256 → AreCounts tags counts → AreCounts (tags ++ t ∷ []) (counted counts t)
counts-more tags None counts long h id l = omega (arith, h id l, count-more id tags None)
counts-more tags (Some v) counts long h id l = by (v == id) refl
  where
    by : (b : Bool) → (v == id) ≡ b → get_or (set counts v (get_or counts v 0 + 1)) id 0 ≡ count_by (is_tag id) (tags ++ Some v ∷ [])
    by true e =
        let same : v ≡ id = grind (arith, nat_tests) in
        let inside : id < length counts = omega (arith, long, l) in
        let one : count_by (is_tag id) (tags ++ Some v ∷ []) ≡ count_by (is_tag id) tags + 1 =
        count-more id tags (Some v) ∙ ap (λ b. count_by (is_tag id) tags + cond b 1 0) e in
        ap (λ k. get_or (set counts k (get_or counts k 0 + 1)) id 0) same
        ∙ get_or-set_same counts id (get_or counts id 0 + 1) 0 inside
        ∙ ap (λ n. n + 1) (h id l) ∙ sym one
    by false e =
        let other : id ≢ v = grind (arith, nat_tests) in
        let none : count_by (is_tag id) (tags ++ Some v ∷ []) ≡ count_by (is_tag id) tags + 0 =
        count-more id tags (Some v) ∙ ap (λ b. count_by (is_tag id) tags + cond b 1 0) e in
        get_or-set_other counts v id (get_or counts v 0 + 1) 0 other ∙ omega (arith, h id l, none)

places-more : (before tags : List (Option ℕ)) (t : Option ℕ) → places_after before (tags ++ t ∷ []) ≡ places_after before tags ++ place_after (before ++ tags) t ∷ []
places-more before [] t = ap (λ l. place_after l t ∷ []) (sym (append-nil before))
places-more before (u ∷ tags) t =
    ap (λ l. place_after before u ∷ l)
    (places-more (before ++ u ∷ []) tags t ∙ ap (λ l. places_after (before ++ u ∷ []) tags ++ place_after l t ∷ []) (append_assoc before (u ∷ []) tags))

next-place : (tags : List (Option ℕ)) (t : Option ℕ) (counts : List ℕ) → IfSome t (λ id. id < 256) → AreCounts tags counts → next_place counts t ≡ place_after tags t
next-place tags None counts small h = refl
next-place tags (Some id) counts small h = h id small

-- the first places, and one more
module _ (tags : List (Option ℕ)) (i : ℕ) (d : Option ℕ) (inside : i < length tags) where
  pub place_pushed : (places new counts : List ℕ) → IfSome (get_or tags i d) (λ id. id < 256) → AreCounts (take i tags) counts → places ≡ places_after [] (take i tags) → new ≡ places ++ next_place counts (get_or tags i d) ∷ [] → new ≡ places_after [] (take (i + 1) tags)
  place_pushed places new counts small h are is =
      is
      ∙ ap₂ (λ l n. l ++ n ∷ []) are (next-place (take i tags) (get_or tags i d) counts small h)
      ∙ sym (ap (places_after []) (take_more tags i d inside) ∙ places-more [] (take i tags) (get_or tags i d))

  pub place_counted : (counts new : List ℕ) → length counts ≡ 256 → AreCounts (take i tags) counts → new ≡ counted counts (get_or tags i d) → AreCounts (take (i + 1) tags) new
  place_counted counts new long h is =
      subst (λ (c : List ℕ). AreCounts (take (i + 1) tags) c) (sym is)
      (subst (λ (l : List (Option ℕ)). AreCounts l (counted counts (get_or tags i d))) (sym (take_more tags i d inside)) (counts-more (take i tags) (get_or tags i d) counts long h))
