-- Slices, as far as there are items.
use Rattle.std.proofs.Common.{◌≡◌, ℕ, ◌-◌, ◌<◌, ◌≤◌, inl, inr, min, List, [], length, take, drop, slice_range, sym, ap, ◌∙◌, arith}
use Rattle.std.specs.Prelude.{replicate}
use Rattle.std.proofs.Math.Seq.{take-nil}
use Rattle.std.proofs.lemmas.Bool.{cases_lt}
use Rattle.std.proofs.lemmas.List.{drop_all, length-drop, length-replicate, take_min}
use Rattle.vx_mask.proofs.RangeCounts.{slice_range-replicate}

module _ {X : Type 0} (xs : List X) (low high : ℕ) where
  inside : low < min high (length xs) → slice_range xs low (min high (length xs)) ≡ slice_range xs low high
  inside h =
      let few : min high (length xs) - low ≡ min (high - low) (length (drop low xs)) = omega (arith, length-drop low xs) in
      ap (λ n. take n (drop low xs)) few ∙ take_min (high - low) (drop low xs)

  outside : min high (length xs) ≤ low → [] ≡ slice_range xs low high
  outside h = elim (cases_lt low (length xs)) [
    | inl l ↦ let no : 0 ≡ high - low = omega arith in ap (λ n. take n (drop low xs)) no
    | inr l ↦ sym (ap (take (high - low)) (drop_all low xs l) ∙ take-nil (high - low))
  ]

  pub clipped : slice_range xs (min low (min high (length xs))) (min high (length xs)) ≡ slice_range xs low high
  clipped = elim (cases_lt low (min high (length xs))) [
    | inl l ↦ let at : min low (min high (length xs)) ≡ low = omega arith in ap (λ n. slice_range xs n (min high (length xs))) at ∙ inside l
    | inr l ↦
        let at : min low (min high (length xs)) ≡ min high (length xs) = omega arith in
        let no : min high (length xs) - min high (length xs) ≡ 0 = omega arith in
        ap (λ n. slice_range xs n (min high (length xs))) at ∙ ap (λ n. take n (drop (min high (length xs)) xs)) no ∙ outside l
  ]

-- of equal items
pub clipped-alike : {X : Type 0} (n : ℕ) (x : X) (low high start end : ℕ) → end ≡ min high n → start ≡ min low end → replicate (end - start) x ≡ slice_range (replicate n x) low high
clipped-alike n x low high start end e s =
    let long = length-replicate n x in
    let last : end ≡ min high (length (replicate n x)) = omega (arith, e, long) in
    let first : start ≡ min low (min high (length (replicate n x))) = omega (arith, s, last) in
    sym (slice_range-replicate n x start end (omega (arith, s)) (omega (arith, e)))
    ∙ ap (λ a. slice_range (replicate n x) a end) first
    ∙ ap (λ b. slice_range (replicate n x) (min low (min high (length (replicate n x)))) b) last
    ∙ clipped (replicate n x) low high
