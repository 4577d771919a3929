-- Values that are read at places.
use Rattle.std.proofs.Common.{◌≡◌, refl, true, ℕ, suc, ◌+◌, ◌<◌, List, [], ◌∷◌, ◌++◌, length, get_or, take, drop, set, map, cond, None, Some, sym, ap, ap₂, ◌∙◌, arith}
use Rattle.std.specs.Prelude.{slice_get}
use Rattle.std.specs.List.{All}
use Rattle.std.proofs.lemmas.List.{take_more_set, map_push, map_more}
use Rattle.std.proofs.lemmas.Option.{slice_get_read}
use Rattle.vx_mask.specs.declared.error.MaskError.TheVariants.{Indices}
use Rattle.vx_mask.specs.Positions.{ascending}
use Rattle.vx_mask.proofs.AscendingLists.{faultless_indices}
use Rattle.vx_lemmas.proofs.Picked.{part_read}

-- places that ascend within a chunk lie in it
pub places_below : (places : List ℕ) → ascending 0 1024 places ≡ true → All (λ p. p < 1024) places
places_below places h = ((faultless_indices 1024 places).0 (ap (λ b. cond b None (Some Indices)) h)).0

-- one more value is read
pub put_read : {X : Type 0} (dst values : List X) (places : List ℕ) (k : ℕ) (x : X) → map Some (take k dst) ≡ map (slice_get values) (take k places) → k < length dst → k < length places → get_or places k 0 < length values → x ≡ get_or values (get_or places k 0) x → map Some (take (k + 1) (set dst k x)) ≡ map (slice_get values) (take (k + 1) places)
put_read dst values places k x h p q r e =
    ap (map Some) (take_more_set dst k x p) ∙ map_push Some (take k dst) x
    ∙ ap₂ (λ l o. l ++ o ∷ []) h (sym (slice_get_read values (length values) (get_or places k 0) x refl r e))
    ∙ sym (map_more (slice_get values) places k 0 q)

-- those at places below n
pub part_at : {X : Type 0} (values : List X) (base n : ℕ) (places : List ℕ) → All (λ p. p < n) places → map (slice_get (take n (drop base values))) places ≡ map (λ p. slice_get values (base + p)) places
part_at values base n [] a = refl
part_at values base n (p ∷ places) a =
    ap₂ ◌∷◌ (part_read values base n p (a 0 0 (omega arith))) (part_at values base n places (λ k d h. a (suc k) d (omega arith)))
