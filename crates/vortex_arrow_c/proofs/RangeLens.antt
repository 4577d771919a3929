-- How many indices the first ranges have, one range more.
use Rattle.std.proofs.Common.{◌≡◌, ℕ, ◌+◌, ◌-◌, ◌*◌, ◌/◌, ◌^◌, ◌<◌, ◌≤◌, List, [], ◌∷◌, ◌++◌, length, map, sum, min, refl, ap, sym, ◌∙◌, arith}
use Rattle.std.specs.List.{range_with_len}
use Rattle.std.proofs.lemmas.List.{map-append}
use Rattle.std.proofs.lemmas.List.Sums.{sum_by_push}
use Rattle.vx_lemmas.proofs.Lists.{range_more}
use Rattle.vortex_arrow_c.specs.Causes.{capped, wide_at}

pub lens_more : (lens : List ℕ) (offset i old own new : ℕ) → old ≡ capped (sum (map (wide_at lens) (range_with_len offset i))) → own ≡ wide_at lens (offset + i) → new ≡ min (old + own) (2 ^ 64 - 1)
    → new ≡ capped (sum (map (wide_at lens) (range_with_len offset (i + 1))))
lens_more lens offset i old own new e at is =
    let before = range_with_len offset i in
    let total : sum (map (wide_at lens) (range_with_len offset (i + 1))) ≡ sum (map (wide_at lens) before) + wide_at lens (offset + i) =
    ap (λ (l : List ℕ). sum (map (wide_at lens) l)) (range_more offset i) ∙ ap sum (map-append (wide_at lens) before ((offset + i) ∷ [])) ∙ sum_by_push (λ (x : ℕ). x) (map (wide_at lens) before) (wide_at lens (offset + i)) in
    numbers old own new (sum (map (wide_at lens) before)) (wide_at lens (offset + i)) e at is ∙ ap capped (sym total)
  where
    numbers : (a b n s w : ℕ) → a ≡ min s (2 ^ 64 - 1) → b ≡ w → n ≡ min (a + b) (2 ^ 64 - 1) → n ≡ min (s + w) (2 ^ 64 - 1)
    numbers a b n s w e f g = omega arith
