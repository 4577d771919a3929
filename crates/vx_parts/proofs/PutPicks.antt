-- Rows at picks, cut into parts and put together.
use Rattle.std.proofs.Common.{◌≡◌, ℕ, ◌+◌, ◌-◌, ◌<◌, List, [], ◌∷◌, length, map, drop, slice_range, Option, Some, None, refl, ap, ◌∙◌, slice_index}
use Rattle.std.specs.Prelude.{slice_index_or, IfSome}
use Rattle.std.proofs.lemmas.List.{get_or-drop, get_or-map, get_or-take}
use Rattle.std.proofs.lemmas.List.Elements.{All-get_or, All-head, All-tail}
use Rattle.std.proofs.lemmas.Simd.{map-map}
use Rattle.vx_take.specs.Picks.{at, item_at}
use Rattle.vx_interleave.specs.Places.{ArePlaces, IsPlaceIn, interleaved, list_of, placed}
use Rattle.vx_interleave.specs.declared.place.Place.{Place}
use Rattle.vx_parts.specs.Bounds.{AreBounds}
use Rattle.vx_parts.specs.Own.{AreCut, pick_at}
use Rattle.vx_parts.proofs.PickCuts.{own_below}

module _ {X : Type 0} (missing : X) (items : List X) (bounds : List ℕ) (b : AreBounds bounds) (picks : List (Option ℕ)) (own : List (List ℕ)) (order : List (Option Place)) (c : AreCut bounds picks own order) (lists : List (List X))
    (each : (k : ℕ) → k < length own → list_of lists k ≡ at missing (slice_range items (slice_index bounds k) (slice_index bounds (k + 1))) (map (λ p. Some p) (list_of own k))) where
  row_put : (place : Place) → IsPlaceIn own place → placed missing lists (Some place) ≡ item_at missing items (pick_at bounds own (Some place))
  row_put place h =
      let k = place.column in let i = place.row in
      let low = slice_index bounds place.column in let high = slice_index bounds (place.column + 1) in
      let part = slice_range items low high in
      let p = slice_index (list_of own place.column) place.row in
      let below : slice_index (list_of own place.column) place.row < slice_index bounds (place.column + 1) - slice_index bounds place.column =
      All-get_or (λ (x : ℕ). x < high - low) (list_of own k) i 0 h.1 ((own_below bounds picks own order b c).1 k h.0) in
      ap (λ (l : List X). slice_index_or l i missing) (each k h.0 ∙ map-map (item_at missing part) (λ (x : ℕ). Some x) (list_of own k))
      ∙ get_or-map (λ (x : ℕ). slice_index_or part x missing) (list_of own k) i 0 missing h.1
      ∙ get_or-take (high - low) (drop low items) p missing below
      ∙ get_or-drop low items p missing

  rows_put : (places : List (Option Place)) → ArePlaces own places → interleaved missing lists places ≡ at missing items (map (pick_at bounds own) places)
  rows_put [] h = refl
  rows_put (None ∷ places) h = ap (λ (l : List X). missing ∷ l) (rows_put places (All-tail (λ (o : Option Place). IfSome o (IsPlaceIn own)) None places h))
  rows_put (Some place ∷ places) h =
      let P : Option Place → Type 0 = λ o. IfSome o (IsPlaceIn own) in
      ap (λ (x : X). x ∷ interleaved missing lists places) (row_put place (All-head P (Some place) places h))
      ∙ ap (λ (l : List X). item_at missing items (pick_at bounds own (Some place)) ∷ l) (rows_put places (All-tail P (Some place) places h))

  pub put_picks : interleaved missing lists order ≡ at missing items picks
  put_picks = rows_put order c.places ∙ ap (at missing items) c.named
