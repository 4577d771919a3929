-- What each part of a plan does to its rows.
use Rattle.std.proofs.Common.{◌≡◌, ℕ, ◌+◌, ◌-◌, ◌<◌, ◌≤◌, List, length, map, slice_range, Option, sym, ap, ap₂, ◌∙◌, subst, arith, slice_index}
use Rattle.std.proofs.lemmas.List.{length-map}
use Rattle.vx_types.specs.RowValue.{RowValue, null}
use Rattle.vx_types.specs.TypeTree.{TypeTree}
use Rattle.vx_steps.specs.Step.{StepValue}
use Rattle.vx_steps.specs.Answer.{type_after}
use Rattle.vx_interleave.specs.Places.{joined, list_of}
use Rattle.vx_parts.specs.Bounds.{bounds_of, end_of}
use Rattle.vx_parts.specs.Cuts.{as_step, carried_by, cuts_of}
use Rattle.vx_parts.specs.Plan.{ArePartsOf, left_bounds, lens_in, own_at, steps_in}
use Rattle.vx_parts.specs.declared.plan.PartPlan.{PartPlan}
use Rattle.vx_parts.proofs.BoundLists.{bound_at, bounds_are, end_of_bounds, length-bounds, rises}
use Rattle.vx_parts.proofs.CutRows.{OwnRows, own_rows, sound_cuts}
use Rattle.vx_parts.proofs.OwnSteps.{own_left, part_done}
use Rattle.vx_parts.proofs.PartSlices.{part_slice, sum_lengths}
use Rattle.vx_parts.proofs.Planned.{end_left}
use Rattle.vx_parts.proofs.Walked.{AreSound, apply_all}

-- the steps of part k break no rule over its rows, keep the type, and leave as many rows as
-- planned: of what the steps before the first take leave of the whole its own
pub record IsPlannedPart (parts : List (List RowValue)) (ss : List StepValue) (plans : List PartPlan) (own : Option (List (List ℕ))) (k : ℕ) : Type 0 where
  pub sound : AreSound (length (list_of parts k)) (list_of (steps_in plans) k)
  pub typed : (t : TypeTree) → type_after t (list_of (steps_in plans) k) ≡ t
  pub rows : apply_all null (list_of (steps_in plans) k) (list_of parts k)
      ≡ own_left (own_at own k) (slice_range (apply_all null (map as_step (cuts_of ss)) (joined parts)) (slice_index (left_bounds (map length parts) ss) k) (slice_index (left_bounds (map length parts) ss) (k + 1)))
  pub count : length (apply_all null (list_of (steps_in plans) k) (list_of parts k)) ≡ slice_index (lens_in plans) k

module _ (parts : List (List RowValue)) (ss : List StepValue) (sound : AreSound (length (joined parts)) ss) where
  cuts_sound : AreSound (length (joined parts)) (map as_step (cuts_of ss))
  cuts_sound = (sound_cuts ss (length (joined parts)) sound).before

  long_bounds : length (bounds_of (map length parts)) ≡ length parts + 1
  long_bounds = omega (arith, length-bounds 0 (map (length {A = RowValue}) parts), length-map parts (length {A = RowValue}))

  pub long_left : length (left_bounds (map length parts) ss) ≡ length parts + 1
  long_left = omega (arith, length-map (bounds_of (map (length {A = RowValue}) parts)) (carried_by (cuts_of ss)), long_bounds)

  pub left_count : length (apply_all null (map as_step (cuts_of ss)) (joined parts)) ≡ carried_by (cuts_of ss) (length (joined parts))
  left_count = (own_rows null (cuts_of ss) (joined parts) 0 0 (omega arith) (omega arith) cuts_sound).left

  pub left_end : end_of (left_bounds (map length parts) ss) ≡ length (apply_all null (map as_step (cuts_of ss)) (joined parts))
  left_end = end_left (map length parts) ss ∙ ap (carried_by (cuts_of ss)) (sum_lengths parts) ∙ sym left_count

  module _ (k : ℕ) (h : k < length parts) where
    ordered : slice_index (bounds_of (map length parts)) k ≤ slice_index (bounds_of (map length parts)) (k + 1)
    ordered = (bounds_are (map length parts)).ascending k (omega (arith, long_bounds))

    within : slice_index (bounds_of (map length parts)) (k + 1) ≤ length (joined parts)
    within =
        let last = rises (bounds_are (map length parts)) (k + 1) (length (bounds_of (map (length {A = RowValue}) parts)) - 1) (omega (arith, long_bounds)) (omega (arith, long_bounds)) in
        omega (arith, last, end_of_bounds (map (length {A = RowValue}) parts), sum_lengths parts)

    own_part : OwnRows null (cuts_of ss) (joined parts) (slice_index (bounds_of (map length parts)) k) (slice_index (bounds_of (map length parts)) (k + 1))
    own_part = own_rows null (cuts_of ss) (joined parts) _ _ ordered within cuts_sound

    low_left : slice_index (left_bounds (map length parts) ss) k ≡ carried_by (cuts_of ss) (slice_index (bounds_of (map length parts)) k)
    low_left = bound_at (carried_by (cuts_of ss)) (bounds_of (map length parts)) k (omega (arith, long_bounds))

    high_left : slice_index (left_bounds (map length parts) ss) (k + 1) ≡ carried_by (cuts_of ss) (slice_index (bounds_of (map length parts)) (k + 1))
    high_left = bound_at (carried_by (cuts_of ss)) (bounds_of (map length parts)) (k + 1) (omega (arith, long_bounds))

    pub planned_part : (plans : List PartPlan) (own : Option (List (List ℕ))) → length plans ≡ length (map (length {A = RowValue}) parts)
        → ArePartsOf (cuts_of ss) (bounds_of (map length parts)) (left_bounds (map length parts) ss) own plans → IsPlannedPart parts ss plans own k
    planned_part plans own many each =
        let low = slice_index (bounds_of (map length parts)) k in
        let high = slice_index (bounds_of (map length parts)) (k + 1) in
        let steps = list_of (steps_in plans) k in
        let here : k < length plans = omega (arith, many, length-map parts (length {A = RowValue})) in
        let left = ap₂ (λ (x y : ℕ). x - y) high_left low_left in
        let d = part_done (joined parts) (cuts_of ss) low high ordered within own_part (own_at own k) steps _ (slice_index (lens_in plans) k) left (each k here) in
        let is = part_slice parts k h in
        record {
          sound = subst (λ (rows : List RowValue). AreSound (length rows) steps) is d.sound;
          typed = d.typed;
          rows = ap (apply_all null steps) (sym is) ∙ d.rows
              ∙ ap (own_left (own_at own k)) (sym (ap₂ (λ x y. slice_range (apply_all null (map as_step (cuts_of ss)) (joined parts)) x y) low_left high_left));
          count = ap (λ (rows : List RowValue). length (apply_all null steps rows)) (sym is) ∙ d.count;
        }
