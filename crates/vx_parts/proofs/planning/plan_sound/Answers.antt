-- The plan of all parts.
use Rattle.std.proofs.Common.{◌≡◌, List, ℕ, length, map, ap, ap₂, subst, sym, ◌∙◌, arith}
use Rattle.vx_types.specs.declared.nullability.Nullability.TheVariants.{NonNullable}
use Rattle.vx_steps.specs.Step.{StepValue, step_value}
use Rattle.vx_steps.specs.Walk.{walk}
use Rattle.vx_steps.specs.Compose.{IsUnbroken, takes_nullability}
use Rattle.vx_parts.specs.Bounds.{AreBounds, end_of}
use Rattle.vx_parts.specs.Cuts.{carried_by, cut_value, from_take}
use Rattle.vx_parts.specs.Plan.{AllPlaced, AreBelow, IsRest, left_bounds, own_in, places_in}
use Rattle.vx_parts.proofs.BoundLists.{bounds_are}
use Rattle.vx_parts.proofs.Planned.{left_are, left_unbroken, plan_is, rest_below, sliced_steps}
use Rattle.vx_parts.proofs.planning.plan_sound.Goals as goal

pub cut_rest-requires-clause-bounds : goal.cut_rest-requires-clause-bounds
cut_rest-requires-clause-bounds c =
    let ns = c.args.lengths.now in let ss = map step_value c.args.steps.now in
    let is : c.deref-3.result.now ≡ left_bounds c.args.lengths.now (map step_value c.args.steps.now) =
    c.deref-3.ensures.value ∙ c.in_ok-left.ensures
    ∙ ap₂ (λ cs bs. map (carried_by cs) bs) (ap (map cut_value) c.deref.ensures.value ∙ c.in_ok-prefix.ensures.cuts) (c.deref-2.ensures.value ∙ c.in_ok-bounds.ensures) in
    subst AreBounds (sym is) (left_are ns ss)

pub cut_rest-requires-clause-unbroken : goal.cut_rest-requires-clause-unbroken
cut_rest-requires-clause-unbroken c =
    let ns = c.args.lengths.now in let ss = map step_value c.args.steps.now in
    let is : c.deref-3.result.now ≡ left_bounds c.args.lengths.now (map step_value c.args.steps.now) =
    c.deref-3.ensures.value ∙ c.in_ok-left.ensures
    ∙ ap₂ (λ cs bs. map (carried_by cs) bs) (ap (map cut_value) c.deref.ensures.value ∙ c.in_ok-prefix.ensures.cuts) (c.deref-2.ensures.value ∙ c.in_ok-bounds.ensures) in
    let steps = sliced_steps c.args.steps.now c.in_ok-prefix.prefix.done (from_take ss) c.in_ok-prefix.ensures.rest in
    subst (λ (s : List StepValue). IsUnbroken (walk (end_of c.deref-3.result.now) s)) (sym steps)
    (subst (λ (l : List ℕ). IsUnbroken (walk (end_of l) (from_take ss))) (sym is) (left_unbroken ns ss c.requires.unbroken))

pub each_part-requires-clause-some : goal.each_part-requires-clause-some
each_part-requires-clause-some c =
    let is = c.deref-5.ensures.value ∙ c.in_ok-bounds.ensures in
    omega (arith, ap length is, (bounds_are c.args.lengths.now).some)

pub each_part-requires-clause-own : goal.each_part-requires-clause-own
each_part-requires-clause-own c =
    let ns = c.args.lengths.now in let ss = map step_value c.args.steps.now in
    let is : c.deref-3.result.now ≡ left_bounds c.args.lengths.now (map step_value c.args.steps.now) =
    c.deref-3.ensures.value ∙ c.in_ok-left.ensures
    ∙ ap₂ (λ cs bs. map (carried_by cs) bs) (ap (map cut_value) c.deref.ensures.value ∙ c.in_ok-prefix.ensures.cuts) (c.deref-2.ensures.value ∙ c.in_ok-bounds.ensures) in
    let same : c.deref-3.result.now ≡ c.deref-6.result.now = c.deref-3.ensures.value ∙ sym c.deref-6.ensures.value in
    subst (λ (l : List ℕ). AreBelow l (own_in c.in_ok-rest.rest)) same
    (rest_below c.deref-3.result.now _ (own_in c.in_ok-rest.rest) (places_in c.in_ok-rest.rest) (subst AreBounds (sym is) (left_are ns ss)) c.in_ok-rest.ensures.rest)

pub returns : goal.returns
returns c =
    let ns = c.args.lengths.now in let ss = map step_value c.args.steps.now in
    let cuts = ap (map cut_value) c.deref.ensures.value ∙ c.in_ok-prefix.ensures.cuts in
    let is : c.deref-3.result.now ≡ left_bounds c.args.lengths.now (map step_value c.args.steps.now) =
    c.deref-3.ensures.value ∙ c.in_ok-left.ensures ∙ ap₂ (λ cs bs. map (carried_by cs) bs) cuts (c.deref-2.ensures.value ∙ c.in_ok-bounds.ensures) in
    let steps = sliced_steps c.args.steps.now c.in_ok-prefix.prefix.done (from_take ss) c.in_ok-prefix.ensures.rest in
    let left = c.deref-6.ensures.value ∙ sym c.deref-3.ensures.value ∙ is in
    let rest = subst (λ (l : List ℕ). IsRest l (from_take ss) (own_in c.in_ok-rest.rest) (places_in c.in_ok-rest.rest)) (c.deref-3.ensures.value ∙ sym c.deref-6.ensures.value)
    (subst (λ (s : List StepValue). IsRest c.deref-3.result.now s (own_in c.in_ok-rest.rest) (places_in c.in_ok-rest.rest)) steps c.in_ok-rest.ensures.rest) in
    let told = subst (λ (s : List StepValue). takes_nullability s ≡ NonNullable → AllPlaced (places_in c.in_ok-rest.rest)) steps c.in_ok-rest.ensures.told in
    plan_is ns ss _ (map cut_value c.deref-4.result.now) c.deref-5.result.now c.deref-6.result.now c.in_ok-rest.rest
    (ap (map cut_value) c.deref-4.ensures.value ∙ c.in_ok-prefix.ensures.cuts) (c.deref-5.ensures.value ∙ c.in_ok-bounds.ensures) left
    rest c.into_order.ensures c.in_ok-parts.ensures.many c.in_ok-parts.ensures.parts c.takes_nullability.ensures told
