-- Steps that break no rule, and what they leave.
use Rattle.std.proofs.Common.{◌≡◌, ℕ, ◌+◌, List, [], ◌∷◌, length, map, Option, Some, None, refl, sym, ap, ◌∙◌, subst}
use Rattle.vx_steps.specs.Step.{StepValue}
use Rattle.vx_steps.specs.Cause.{MatchError}
use Rattle.vx_steps.specs.Walk.{Walk, walk_fault, walk_picks, walk_from, walk, all_positions, apply, broken, rows_left, unless_broken}
use Rattle.vx_steps.specs.Compose.{IsFaultOf, IsUnbroken}
use Rattle.vx_steps.specs.declared.cause.Cause.{Cause}
use Rattle.vx_steps.specs.declared.cause.SelectError.{SelectError}
use Rattle.vx_steps.specs.declared.cause.SelectError.TheVariants.{Broken, NoMemory}
use Rattle.vx_steps.proofs.Walks.{length-all_positions, length-apply, map-apply}

-- each step breaks no rule over what those before it leave of n rows
abbrev pub AreSound : ℕ → List StepValue → Type 0
AreSound n [] = Unit {0}
AreSound n (s ∷ ss) = (broken s n ≡ None) × AreSound (rows_left s) ss

-- what such steps leave of a list
abbrev pub apply_all : {X : Type 0} → X → List StepValue → List X → List X
apply_all missing [] items = items
apply_all missing (s ∷ ss) items = apply_all missing ss (apply missing s items)

pub map-apply_all : {X Y : Type 0} (f : X → Y) (missing : X) (ss : List StepValue) (items : List X) → map f (apply_all missing ss items) ≡ apply_all (f missing) ss (map f items)
map-apply_all f missing [] items = refl
map-apply_all f missing (s ∷ ss) items = map-apply_all f missing ss (apply missing s items) ∙ ap (apply_all (f missing) ss) (map-apply f missing s items)

-- ---- soundness and the walk

left_of : (s : StepValue) (ss : List StepValue) (picks : List (Option ℕ)) → broken s (length picks) ≡ None → length (apply None s picks) ≡ rows_left s
left_of s ss picks h = length-apply None s picks (length picks) refl h

pub sound_walk : (k : ℕ) (picks : List (Option ℕ)) (ss : List StepValue) → AreSound (length picks) ss → walk_from k picks ss ≡ walk_picks (apply_all None ss picks)
sound_walk k picks [] h = refl
sound_walk k picks (s ∷ ss) h =
    ap (λ b. unless_broken b k (walk_from (k + 1) (apply None s picks) ss)) h.0
    ∙ sound_walk (k + 1) (apply None s picks) ss (subst (λ (n : ℕ). AreSound n ss) (sym (left_of s ss picks h.0)) h.1)

unbroken_step : (b : Option Cause) (k : ℕ) (rest : Walk) → IsUnbroken (unless_broken b k rest) → (b ≡ None) × IsUnbroken rest
unbroken_step None k rest h = (refl, h)
unbroken_step (Some cause) k rest h = absurd h

pub walk_sound : (k : ℕ) (picks : List (Option ℕ)) (ss : List StepValue) → IsUnbroken (walk_from k picks ss) → AreSound (length picks) ss
walk_sound k picks [] h = tt
walk_sound k picks (s ∷ ss) h =
    let both = unbroken_step (broken s (length picks)) k (walk_from (k + 1) (apply None s picks) ss) h in
    (both.0, subst (λ (n : ℕ). AreSound n ss) (left_of s ss picks both.0) (walk_sound (k + 1) (apply None s picks) ss both.1))

-- over all positions of n rows
pub sound_of : (n : ℕ) (ss : List StepValue) → IsUnbroken (walk n ss) → AreSound n ss
sound_of n ss h = subst (λ (m : ℕ). AreSound m ss) (length-all_positions n) (walk_sound 0 (all_positions n) ss h)

pub walk_of : (n : ℕ) (ss : List StepValue) → AreSound n ss → walk n ss ≡ walk_picks (apply_all None ss (all_positions n))
walk_of n ss h = sound_walk 0 (all_positions n) ss (subst (λ (m : ℕ). AreSound m ss) (sym (length-all_positions n)) h)

pub unbroken_of : (n : ℕ) (ss : List StepValue) → AreSound n ss → IsUnbroken (walk n ss)
unbroken_of n ss h = subst IsUnbroken (sym (walk_of n ss h)) tt

no_fault : (w : Walk) (k : ℕ) (cause : Cause) → w ≡ walk_fault k cause → IsUnbroken w → ⊥
no_fault w k cause e h = subst IsUnbroken e h

pub not_broken : (w : Walk) (k : ℕ) (cause : Cause) → IsUnbroken w → IsFaultOf w (Broken k cause) → ⊥
not_broken w k cause h e = no_fault w k cause e h

-- a fault of a walk, which never gives `NoMemory`, is one where there may be `NoMemory`
pub fault_of : (w : Walk) (e : SelectError) → MatchError e (λ k cause. w ≡ walk_fault k cause) ⊥ → IsFaultOf w e
fault_of w (Broken k cause) h = h
fault_of w NoMemory h = absurd h
