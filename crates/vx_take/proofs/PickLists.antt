-- Lemmas on picks, and on the places that stand for them.
use Rattle.std.proofs.Common.{◌≡◌, ℕ, ◌+◌, ◌-◌, ◌^◌, ◌<◌, ◌≤◌, Bool, true, false, cond, List, [], ◌∷◌, ◌++◌, length, get_or, map, take, None, Some, refl, sym, ap, ap₂, subst, ◌∙◌, arith}
use Rattle.std.specs.Prelude.{IfSome, Option, ◌==◌}
use Rattle.std.proofs.lemmas.Bool.{eqb-false, ne_eqb}
use Rattle.std.specs.List.{All}
use Rattle.std.proofs.lemmas.List.Elements.{All-tail}
use Rattle.std.proofs.lemmas.List.{get_or-map, length-map, map_more, map-append, take_all}
use Rattle.vx_take.specs.Picks.{ArePlaces, AreBelow, IsPlace, null_place, pick_of, picks_of}

place_tested : (place bound : ℕ) (null : Bool) → (place == null_place) ≡ null → IsPlace place bound → IfSome (cond null None (Some place)) (λ p. p < bound)
place_tested place bound true e h = tt
place_tested place bound false e h = h (eqb-false place null_place e)

-- the pick of a place that is below the bound is below it too
pub place_below : (place bound : ℕ) → IsPlace place bound → IfSome (pick_of place) (λ p. p < bound)
place_below place bound h = place_tested place bound (place == null_place) refl h

-- so are those of a list
pub places_below : (places : List ℕ) (bound : ℕ) → ArePlaces places bound → AreBelow (picks_of places) bound
places_below places bound are k d h =
    let within : k < length places = omega (arith, length-map places pick_of) in
    let P : Option ℕ → Type 0 = λ o. IfSome o (λ p. p < bound) in
    subst P (sym (get_or-map pick_of places k 0 d within)) (place_below (get_or places k 0) bound (are.each k within))

-- ---- a list of what each place gives, one more at a time

module _ {X : Type 0} (f : Option ℕ → X) (places : List ℕ) (k : ℕ) where
  pub item_more : (old new : List X) (item : X) → k < length places → old ≡ map f (picks_of (take k places)) → new ≡ old ++ item ∷ [] → item ≡ f (pick_of (get_or places k 0)) → new ≡ map f (picks_of (take (k + 1) places))
  item_more old new item h is more one =
      more ∙ ap₂ (λ l x. l ++ x ∷ []) is one
      ∙ sym (ap (map f) (map_more pick_of places k 0 h) ∙ map-append f (picks_of (take k places)) (pick_of (get_or places k 0) ∷ []))

  pub all_items : (picks : List (Option ℕ)) (all : List X) → length places ≤ k → picks_of places ≡ picks → all ≡ map f (picks_of (take k places)) → all ≡ map f picks
  all_items picks all h is e = e ∙ ap (λ l. map f (picks_of l)) (take_all k places h) ∙ ap (map f) is

-- positions below a bound are picks, and none of them a null
pub picks_below : (bound : ℕ) (positions : List ℕ) → bound < 2 ^ 64 → All (λ p. p < bound) positions → picks_of positions ≡ map Some positions
picks_below bound [] h below = refl
picks_below bound (p ∷ positions) h below =
    let here = below 0 0 (omega arith) in
    ap₂ ◌∷◌ (ap (λ b. cond b None (Some p)) (ne_eqb p (2 ^ 64 - 1) (λ e. omega (arith, here, e)))) (picks_below bound positions h (All-tail (λ q. q < bound) p positions below))
