-- Plans, part by part.
use Rattle.std.proofs.Common.{◌≡◌, ℕ, ◌+◌, ◌-◌, ◌<◌, List, [], ◌∷◌, ◌++◌, length, map, take, drop, Option, Some, None, sym, ap, ◌∙◌, subst, inl, inr, arith, slice_index}
use Rattle.std.specs.List.{All, sum}
use Rattle.std.proofs.lemmas.Bool.{cases_eq}
use Rattle.std.proofs.lemmas.List.{get_or_push, get_or_append_left, length-drop, length-map, length_push, map_push, take_all}
use Rattle.vx_types.specs.declared.nullability.Nullability.TheVariants.{NonNullable}
use Rattle.vx_steps.specs.Step.{StepValue, step_value}
use Rattle.vx_steps.specs.Walk.{walk}
use Rattle.vx_steps.specs.Compose.{IsUnbroken, takes_nullability}
use Rattle.vx_steps.specs.declared.step.Step.{Step}
use Rattle.vx_interleave.specs.Places.{list_of}
use Rattle.vx_interleave.specs.declared.place.Place.{Place}
use Rattle.vx_parts.specs.Bounds.{AreBounds, bounds_of, end_of}
use Rattle.vx_parts.specs.Cuts.{CutValue, carried_by, cuts_of, from_take}
use Rattle.vx_parts.specs.Plan.{AllPlaced, AreBelow, ArePartsOf, IsPartAt, IsPlan, IsRest, left_bounds, lens_in, order_in, own_in, places_in, steps_in}
use Rattle.vx_parts.specs.declared.own.OwnPicks.{OwnPicks}
use Rattle.vx_parts.specs.declared.plan.PartPlan.{PartPlan}
use Rattle.vx_parts.specs.declared.plan.Plan.{Plan}
use Rattle.vx_parts.proofs.BoundLists.{bounds_are, carried_bounds, end_carried, end_of_bounds, length-bounds}
use Rattle.vx_parts.proofs.CutRows.{sound_cuts}
use Rattle.vx_parts.proofs.NullsTold.{takes_from}
use Rattle.vx_parts.proofs.PickCuts.{own_below}
use Rattle.vx_parts.proofs.Walked.{AreSound, sound_of, unbroken_of}

-- ---- one part more

module _ (parts : List PartPlan) (part : PartPlan) where
  steps_before : (k : ℕ) → k < length parts → list_of (steps_in (parts ++ part ∷ [])) k ≡ list_of (steps_in parts) k
  steps_before k h =
      let f : PartPlan → List StepValue = λ p. map step_value p.steps.items in
      ap (λ (l : List (List StepValue)). list_of l k) (map_push f parts part) ∙ get_or_append_left (map f parts) (f part ∷ []) [] k (omega (arith, length-map parts f))

  lens_before : (k : ℕ) → k < length parts → slice_index (lens_in (parts ++ part ∷ [])) k ≡ slice_index (lens_in parts) k
  lens_before k h =
      let f : PartPlan → ℕ = λ p. p.len in
      ap (λ (l : List ℕ). slice_index l k) (map_push f parts part) ∙ get_or_append_left (map f parts) (f part ∷ []) 0 k (omega (arith, length-map parts f))

  steps_last : list_of (steps_in (parts ++ part ∷ [])) (length parts) ≡ map step_value part.steps.items
  steps_last =
      let f : PartPlan → List StepValue = λ p. map step_value p.steps.items in
      ap (λ (l : List (List StepValue)). list_of l (length parts)) (map_push f parts part) ∙ get_or_push (map f parts) (f part) [] (length parts) (length-map parts f)

  lens_last : slice_index (lens_in (parts ++ part ∷ [])) (length parts) ≡ part.len
  lens_last =
      let f : PartPlan → ℕ = λ p. p.len in
      ap (λ (l : List ℕ). slice_index l (length parts)) (map_push f parts part) ∙ get_or_push (map f parts) (f part) 0 (length parts) (length-map parts f)

  pub parts_push : (cs : List CutValue) (bounds left : List ℕ) (own : Option (List (List ℕ))) → ArePartsOf cs bounds left own parts → IsPartAt cs bounds left own (length parts) (map step_value part.steps.items) part.len
      → ArePartsOf cs bounds left own (parts ++ part ∷ [])
  parts_push cs bounds left own before last k h =
      elim (cases_eq k (length parts)) [
        | inl e ↦ subst (λ (j : ℕ). IsPartAt cs bounds left own j (list_of (steps_in (parts ++ part ∷ [])) j) (slice_index (lens_in (parts ++ part ∷ [])) j)) (sym e)
            (subst (λ (ss : List StepValue). IsPartAt cs bounds left own (length parts) ss (slice_index (lens_in (parts ++ part ∷ [])) (length parts))) (sym steps_last)
            (subst (λ (n : ℕ). IsPartAt cs bounds left own (length parts) (map step_value part.steps.items) n) (sym lens_last) last))
        | inr ne ↦
            let inside : k < length parts = omega (arith, length_push parts part) in
            subst (λ (ss : List StepValue). IsPartAt cs bounds left own k ss (slice_index (lens_in (parts ++ part ∷ [])) k)) (sym (steps_before k inside))
            (subst (λ (n : ℕ). IsPartAt cs bounds left own k (list_of (steps_in parts) k) n) (sym (lens_before k inside)) (before k inside))
      ]

pub parts_none : (cs : List CutValue) (bounds left : List ℕ) (own : Option (List (List ℕ))) → ArePartsOf cs bounds left own []
parts_none cs bounds left own k h = absurd (omega arith)

-- ---- own picks

pub below_at : (left : List ℕ) (own : List (List ℕ)) (k len : ℕ) (picks : List ℕ) → AreBelow left (Some own) → k < length own → len ≡ slice_index left (k + 1) - slice_index left k → picks ≡ list_of own k → All (λ p. p < len) picks
below_at left own k len picks below h count is =
    subst (λ (n : ℕ). All (λ p. p < n) picks) (sym count) (subst (All (λ p. p < slice_index left (k + 1) - slice_index left k)) (sym is) (below.1 k h))

pub rest_below : (left : List ℕ) (ss : List StepValue) (own : Option (List (List ℕ))) (order : Option (List (Option Place))) → AreBounds left → IsRest left ss own order → AreBelow left own
rest_below left ss None order b r = tt
rest_below left [] (Some own) None b r = absurd r
rest_below left [] (Some own) (Some order) b r = absurd r
rest_below left (s ∷ ss) (Some own) None b r = absurd r
rest_below left (s ∷ ss) (Some own) (Some order) b r = own_below left r.picks own order b r.cut

-- ---- the whole plan

pub left_are : (ns : List ℕ) (ss : List StepValue) → AreBounds (left_bounds ns ss)
left_are ns ss = carried_bounds (cuts_of ss) (bounds_of ns) (bounds_are ns)

pub end_left : (ns : List ℕ) (ss : List StepValue) → end_of (left_bounds ns ss) ≡ carried_by (cuts_of ss) (sum ns)
end_left ns ss = end_carried (cuts_of ss) (bounds_of ns) (bounds_are ns) ∙ ap (carried_by (cuts_of ss)) (end_of_bounds ns)

pub left_unbroken : (ns : List ℕ) (ss : List StepValue) → IsUnbroken (walk (sum ns) ss) → IsUnbroken (walk (end_of (left_bounds ns ss)) (from_take ss))
left_unbroken ns ss h =
    unbroken_of (end_of (left_bounds ns ss)) (from_take ss)
    (subst (λ (n : ℕ). AreSound n (from_take ss)) (sym (end_left ns ss)) (sound_cuts ss (sum ns) (sound_of (sum ns) ss h)).after)

-- the steps that a slice of the steps are
pub sliced_steps : (steps : List Step) (done : ℕ) (ss : List StepValue) → map step_value (drop done steps) ≡ ss → map step_value (take (length steps - done) (drop done steps)) ≡ ss
sliced_steps steps done ss h = ap (map step_value) (take_all (length steps - done) (drop done steps) (omega (arith, length-drop done steps))) ∙ h

pub plan_is : (ns : List ℕ) (ss : List StepValue) (plan : Plan) (cs : List CutValue) (bounds left : List ℕ) (rest : Option OwnPicks) → cs ≡ cuts_of ss → bounds ≡ bounds_of ns → left ≡ left_bounds ns ss
    → IsRest left (from_take ss) (own_in rest) (places_in rest) → order_in plan ≡ places_in rest → length plan.parts.items + 1 ≡ length bounds → ArePartsOf cs bounds left (own_in rest) plan.parts.items → plan.nullability ≡ takes_nullability ss
    → (takes_nullability (from_take ss) ≡ NonNullable → AllPlaced (places_in rest)) → IsPlan ns ss plan
plan_is ns ss plan cs bounds left rest c b l r o many parts n told =
    record {
      many = omega (arith, many, ap length b, length-bounds 0 ns);
      own = own_in rest;
      rest = subst (IsRest (left_bounds ns ss) (from_take ss) (own_in rest)) (sym o) (subst (λ (x : List ℕ). IsRest x (from_take ss) (own_in rest) (places_in rest)) l r);
      parts = subst (λ (x : List CutValue). ArePartsOf x (bounds_of ns) (left_bounds ns ss) (own_in rest) plan.parts.items) c
          (subst (λ (x : List ℕ). ArePartsOf cs x (left_bounds ns ss) (own_in rest) plan.parts.items) b
          (subst (λ (x : List ℕ). ArePartsOf cs bounds x (own_in rest) plan.parts.items) l parts));
      nullability = n;
      told = λ none. subst AllPlaced (sym o) (told (takes_from ss (sym n ∙ none)));
    }
