-- The first image that lacks something.
use Rattle.std.proofs.Common.{◌≡◌, ℕ, zero, suc, ◌+◌, ◌<◌, List, [], ◌∷◌, map, length, drop, get_or, Option, None, Some, refl, sym, ap, ◌∙◌, arith, drop-cons, add-one}
use Rattle.std.proofs.lemmas.List.{get_or-map, length-map}
use Rattle.vx_arrow.specs.Image.{StepParts, first_lack, or_later, step_lack, step_parts}
use Rattle.vx_arrow.specs.declared.image.StepImage.{StepImage}
use Rattle.vx_arrow.specs.declared.lacks.Lack.{Lack}

pub lack_next : (steps : List StepParts) (k : ℕ) (s : StepParts) → first_lack 0 steps ≡ first_lack k (drop k steps) → k < length steps → s ≡ get_or steps k s
    → first_lack 0 steps ≡ or_later k (step_lack s) (first_lack (k + 1) (drop (k + 1) steps))
lack_next steps k s so h is =
    let cut : drop k steps ≡ s ∷ drop (k + 1) steps = drop-cons steps k s h ∙ rw (← is, add-one) refl in
    so ∙ ap (first_lack k) cut

module _ (images : List StepImage) (k : ℕ) (d : StepImage) where
  image_at : k < length images → step_parts (get_or images k d) ≡ get_or (map step_parts images) k (step_parts (get_or images k d))
  image_at h = sym (get_or-map step_parts images k d (step_parts (get_or images k d)) h)

  within : k < length images → k < length (map step_parts images)
  within h = omega (arith, length-map images step_parts)

  pub found_at : (lack : Lack) → first_lack 0 (map step_parts images) ≡ first_lack k (drop k (map step_parts images)) → k < length images → Some lack ≡ step_lack (step_parts (get_or images k d))
      → Some (record { step = k; lack = lack }) ≡ first_lack 0 (map step_parts images)
  found_at lack so h found =
      ap (λ l. or_later k l (first_lack (k + 1) (drop (k + 1) (map step_parts images)))) found
      ∙ sym (lack_next (map step_parts images) k (step_parts (get_or images k d)) so (within h) (image_at h))

  pub passed_at : first_lack 0 (map step_parts images) ≡ first_lack k (drop k (map step_parts images)) → k < length images → None ≡ step_lack (step_parts (get_or images k d))
      → first_lack 0 (map step_parts images) ≡ first_lack (k + 1) (drop (k + 1) (map step_parts images))
  passed_at so h none =
      lack_next (map step_parts images) k (step_parts (get_or images k d)) so (within h) (image_at h)
      ∙ ap (λ l. or_later k l (first_lack (k + 1) (drop (k + 1) (map step_parts images)))) (sym none)

none_after : (l : Option Lack) (k : ℕ) (steps : List StepParts) → or_later k l (first_lack (k + 1) steps) ≡ None → (l ≡ None) × (first_lack (k + 1) steps ≡ None)
none_after None k steps h = (refl, h)
none_after (Some lack) k steps h = cc

-- where none lacks anything, image i doesn't
pub none_lacks : (k : ℕ) (steps : List StepParts) (i : ℕ) (s : StepParts) → first_lack k steps ≡ None → i < length steps → s ≡ get_or steps i s → step_lack s ≡ None
none_lacks k [] i s h l is = absurd (omega arith)
none_lacks k (x ∷ steps) zero s h l is = ap step_lack is ∙ (none_after (step_lack x) k steps h).0
none_lacks k (x ∷ steps) (suc i) s h l is = none_lacks (k + 1) steps i s (none_after (step_lack x) k steps h).1 (omega arith) is

-- where no image of a list lacks anything, image k doesn't
pub image_lacks : (images : List StepImage) (k : ℕ) (d : StepImage) → first_lack 0 (map step_parts images) ≡ None → k < length images → step_lack (step_parts (get_or images k d)) ≡ None
image_lacks images k d none h = none_lacks 0 (map step_parts images) k (step_parts (get_or images k d)) none (within images k d h) (image_at images k d h)
