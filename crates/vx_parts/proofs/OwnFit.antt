-- What the parts answer by a plan can be put together.
use Rattle.std.proofs.Common.{◌≡◌, ℕ, ◌+◌, ◌<◌, ◌⊎◌, inl, inr, true, List, [], ◌∷◌, length, map, slice_range, Option, Some, None, refl, sym, ap, ◌∙◌, subst, arith, slice_index}
use Rattle.std.specs.Prelude.{IfSome, is_some}
use Rattle.std.specs.List.{list_all, sum}
use Rattle.std.proofs.lemmas.List.{length-map}
use Rattle.std.proofs.lemmas.List.Elements.{All-nil, All-cons, All-head, All-tail}
use Rattle.vx_types.specs.Nullability.{either_nullable, is_nullable}
use Rattle.vx_types.specs.RowValue.{RowValue, null}
use Rattle.vx_types.specs.TypeTree.{TypeTree}
use Rattle.vx_types.specs.declared.nullability.Nullability.{Nullability}
use Rattle.vx_types.specs.declared.nullability.Nullability.TheVariants.{NonNullable, Nullable}
use Rattle.vx_take.specs.Picks.{item_at}
use Rattle.vx_model.specs.Column.{Column}
use Rattle.vx_steps.specs.Step.{StepValue}
use Rattle.vx_steps.specs.Walk.{walk}
use Rattle.vx_steps.specs.Compose.{IsUnbroken}
use Rattle.vx_interleave.specs.Places.{ArePlaces, IsPlaceIn, joined, list_of}
use Rattle.vx_interleave.specs.Sources.{ArePlacesFor, IsPlaceFor, rows_of}
use Rattle.vx_interleave.specs.declared.place.Place.{Place}
use Rattle.vx_parts.specs.Bounds.{bounds_of}
use Rattle.vx_parts.specs.Cuts.{as_step, cuts_of, from_take}
use Rattle.vx_parts.specs.Plan.{AllPlaced, ArePartsOf, IsPlan, IsRest, left_bounds, lens_in, order_in, steps_in}
use Rattle.vx_parts.specs.Putting.{AreAnswersTo, AreFit, AreOwnUnbroken, IsOrderFor, IsPutFault, put_type}
use Rattle.vx_parts.specs.declared.error.PutError.{PutError}
use Rattle.vx_parts.specs.declared.error.PutError.TheVariants.{NoMemory, WrongOrder}
use Rattle.vx_parts.specs.declared.plan.PartPlan.{PartPlan}
use Rattle.vx_parts.specs.declared.plan.Plan.{Plan}
use Rattle.vx_parts.proofs.PickCuts.{cut_long}
use Rattle.vx_parts.proofs.PlannedParts.{long_left, planned_part}
use Rattle.vx_parts.proofs.PutFaults.{no_fault, only_memory}
use Rattle.vx_parts.proofs.PutWhole.{answer_at, long_answers, part_at, rows_at, sound_whole}
use Rattle.vx_parts.proofs.Walked.{apply_all, unbroken_of}

-- ---- the order

placed_first : (place : Option Place) (order : List (Option Place)) → list_all is_some (place ∷ order) ≡ true → (is_some place ≡ true) × (list_all is_some order ≡ true)
placed_first None order h = absurd cc
placed_first (Some place) order h = (refl, h)

-- places of items are those of rows that are as many, list by list
places_for : (t : TypeTree) (lists : List (List RowValue)) (own : List (List ℕ)) (order : List (Option Place)) → length lists ≡ length own → ((k : ℕ) → k < length own → length (list_of lists k) ≡ length (list_of own k))
    → (is_nullable t.nullability ≡ true) ⊎ (list_all is_some order ≡ true) → ArePlaces own order → ArePlacesFor t lists order
places_for t lists own [] many long nulls h = All-nil (IsPlaceFor t lists)
places_for t lists own (None ∷ order) many long (inl nullable) h =
    let P : Option Place → Type 0 = λ o. IfSome o (IsPlaceIn own) in
    All-cons (IsPlaceFor t lists) None order nullable (places_for t lists own order many long (inl nullable) (All-tail P None order h))
places_for t lists own (None ∷ order) many long (inr there) h = absurd cc
places_for t lists own (Some place ∷ order) many long nulls h =
    let P : Option Place → Type 0 = λ o. IfSome o (IsPlaceIn own) in
    let here : IsPlaceIn own place = All-head P (Some place) order h in
    let rest : (is_nullable t.nullability ≡ true) ⊎ (list_all is_some order ≡ true) = elim nulls [ inl nullable ↦ inl nullable | inr there ↦ inr (placed_first (Some place) order there).1 ] in
    All-cons (IsPlaceFor t lists) (Some place) order (omega (arith, here.0, many), omega (arith, here.1, long place.column here.0))
    (places_for t lists own order many long rest (All-tail P (Some place) order h))

nulls_of : (m n : Nullability) (P : Type 0) → (n ≡ NonNullable → P) → (is_nullable (either_nullable m n) ≡ true) ⊎ P
nulls_of m NonNullable P f = inr (f refl)
nulls_of NonNullable Nullable P f = inl refl
nulls_of Nullable Nullable P f = inl refl

module _ (t : TypeTree) (parts : List (List RowValue)) (ss : List StepValue) (plan : Plan) (answers : List Column) (a : AreAnswersTo t parts ss plan answers) where
  order_case : (rest : List StepValue) (own : Option (List (List ℕ))) (order : Option (List (Option Place))) → IsRest (left_bounds (map length parts) ss) rest own order
      → ArePartsOf (cuts_of ss) (bounds_of (map length parts)) (left_bounds (map length parts) ss) own plan.parts.items
      → (plan.nullability ≡ NonNullable → AllPlaced order) → IsOrderFor (put_type t plan) answers order
  order_case rest own None r each told = tt
  order_case [] None (Some order) r each told = absurd r
  order_case [] (Some own) (Some order) r each told = absurd r
  order_case (s ∷ rest) None (Some order) r each told = absurd r
  order_case (s ∷ rest) (Some own) (Some order) r each told =
      let left = left_bounds (map length parts) ss in
      let kept = apply_all null (map as_step (cuts_of ss)) (joined parts) in
      let many = cut_long left r.picks own order r.cut in
      let long : length own ≡ length parts = omega (arith, many, long_left parts ss (sound_whole parts ss a.unbroken)) in
      places_for (put_type t plan) (rows_of answers) own order (long_answers t parts ss plan answers a ∙ sym long)
      (λ k h. ap length (rows_at t parts ss plan answers a (Some own) each k (omega (arith, h, long)))
      ∙ length-map (map (λ p. Some p) (list_of own k)) (item_at null (slice_range kept (slice_index left k) (slice_index left (k + 1)))) ∙ length-map (list_of own k) (λ (p : ℕ). Some p))
      (nulls_of t.nullability plan.nullability (list_all is_some order ≡ true) told) r.cut.places

  pub own_fit : AreFit t plan answers
  own_fit =
      let long : length (lens_in plan.parts.items) ≡ length parts = length-map plan.parts.items (λ (q : PartPlan). q.len) ∙ a.planned.many ∙ length-map parts (length {A = RowValue}) in (
        no_fault t (lens_in plan.parts.items) answers (a.own.many ∙ sym long)
            (λ i h.
            let inside : i < length parts = omega (arith, h, long) in
            let r = answer_at t parts ss plan answers a a.planned.own a.planned.parts i inside in
            let part = part_at t parts ss plan answers a a.planned.own a.planned.parts i inside in
            subst (λ (o : Option Column). IfSome o (λ (c : Column). (c.dtype ≡ t) × (length c.rows ≡ slice_index (lens_in plan.parts.items) i))) (sym r.is)
            (r.so.dtype, ap length r.so.rows ∙ part.count)),
        order_case (from_take ss) a.planned.own (order_in plan) a.planned.rest a.planned.parts a.planned.told,
      )

  -- so they are refused only when memory runs out
  pub own_refusal : (e : PutError) → IsPutFault t plan answers e → e ≡ NoMemory
  own_refusal e fault = let fit = own_fit in only_memory t plan answers e fault fit.0 (λ (o : IsPutFault t plan answers WrongOrder). o.1 fit.1)

-- ---- a part's own steps break no rule

pub own_unbroken : (parts : List (List RowValue)) (ss : List StepValue) (plan : Plan) → IsPlan (map length parts) ss plan → IsUnbroken (walk (sum (map length parts)) ss) → AreOwnUnbroken parts (steps_in plan.parts.items)
own_unbroken parts ss plan p h k l =
    let part = planned_part parts ss (sound_whole parts ss h) k l plan.parts.items p.own p.many p.parts in
    unbroken_of (length (list_of parts k)) (list_of (steps_in plan.parts.items) k) part.sound
