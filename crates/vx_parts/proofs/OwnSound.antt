-- Each part's own steps break no rule over its rows, however many these are.
use Rattle.std.proofs.Common.{◌≡◌, ℕ, ◌<◌, List, [], ◌∷◌, length, map, replicate, None, refl, sym, ap, ap₂, ◌∙◌, subst, arith, slice_index}
use Rattle.std.specs.List.{sum}
use Rattle.std.proofs.lemmas.List.{get_or-map, length-map, length-replicate}
use Rattle.vx_types.specs.RowValue.{RowValue, null}
use Rattle.vx_steps.specs.Step.{StepValue}
use Rattle.vx_steps.specs.Walk.{all_positions, walk}
use Rattle.vx_steps.specs.Compose.{IsUnbroken}
use Rattle.vx_steps.proofs.Walks.{length-all_positions}
use Rattle.vx_interleave.specs.Places.{list_of}
use Rattle.vx_parts.specs.Plan.{AreEachSound, AreOwnSound, IsPlan, lens_in, steps_in}
use Rattle.vx_parts.specs.declared.plan.Plan.{Plan}
use Rattle.vx_parts.proofs.OwnSteps.{left_after, length-apply_all}
use Rattle.vx_parts.proofs.PlannedParts.{planned_part}
use Rattle.vx_parts.proofs.PutWhole.{sound_whole}
use Rattle.vx_parts.proofs.Walked.{AreSound, apply_all, walk_of}

-- parts of these lengths
abbrev rows_as_many : List ℕ → List (List RowValue)
rows_as_many ns = map (λ (n : ℕ). replicate n null) ns

as_many : (ns : List ℕ) → map length (rows_as_many ns) ≡ ns
as_many [] = refl
as_many (n ∷ ns) = ap₂ (λ (x : ℕ) (xs : List ℕ). x ∷ xs) (length-replicate n null) (as_many ns)

pub own_sound : (ns : List ℕ) (ss : List StepValue) (plan : Plan) → IsPlan ns ss plan → IsUnbroken (walk (sum ns) ss) → AreEachSound ns plan.parts.items
own_sound ns ss plan p h k l =
    let parts = rows_as_many ns in
    let are = as_many ns in
    let planned = subst (λ (xs : List ℕ). IsPlan xs ss plan) (sym are) p in
    let unbroken = subst (λ (xs : List ℕ). IsUnbroken (walk (sum xs) ss)) (sym are) h in
    let inside : k < length parts = omega (arith, l, length-map ns (λ (n : ℕ). replicate n null)) in
    let part = planned_part parts ss (sound_whole parts ss unbroken) k inside plan.parts.items planned.own planned.many planned.parts in
    let steps = list_of (steps_in plan.parts.items) k in
    let n = length (list_of parts k) in
    let many : n ≡ slice_index ns k = sym (get_or-map (length {A = RowValue}) parts k [] 0 inside) ∙ ap (λ (xs : List ℕ). slice_index xs k) are in
    let long = length-all_positions n in
    let left : length (apply_all None steps (all_positions n)) ≡ slice_index (lens_in plan.parts.items) k =
    length-apply_all None steps (all_positions n) (subst (λ (m : ℕ). AreSound m steps) (sym long) part.sound)
    ∙ ap (λ (m : ℕ). left_after m steps) long ∙ sym (length-apply_all null steps (list_of parts k) part.sound) ∙ part.count in
    let own : AreOwnSound n steps (slice_index (lens_in plan.parts.items) k) =
    record { picks = apply_all None steps (all_positions n); composed = walk_of n steps part.sound; left = left; typed = part.typed } in
    subst (λ (m : ℕ). AreOwnSound m steps (slice_index (lens_in plan.parts.items) k)) many own
