-- A list of steps, and what their masks keep.
use Rattle.std.proofs.Common.{◌≡◌, Bool, true, false, List, [], ◌∷◌, map, Option, Some, None, refl, sym, ap, ◌∙◌, subst}
use Rattle.std.specs.Prelude.{if◌then◌else◌, codes, Result, Ok, Err}
use Rattle.serde_json.specs.Data.{Data, Items, no_items, item}
use Rattle.serde_json.specs.Find.{get, as_array}
use Rattle.vx_mask.specs.Mask.{mask_bits, partial_of}
use Rattle.vx_mask.specs.MaskValues.{PartialMask}
use Rattle.vx_mask.specs.declared.mask.Mask.{Mask}
use Rattle.vx_json.specs.Items.{each}
use Rattle.vx_json.specs.Masks.{MaskSeen, mask_of, kept_of, stated_mask}
use Rattle.vx_json.specs.Meaning.{◌>>=◌, Fails, Gives}
use Rattle.vx_json.specs.Members.{is_closed}
use Rattle.vx_json.specs.declared.error.DocError.{DocError}
use Rattle.vx_json.specs.declared.error.DocError.TheVariants.{Malformed, NoMemory}
use Rattle.vx_steps.specs.Step.{StepValue, filter_step, step_value}
use Rattle.vx_steps.specs.declared.step.Step.{Step}
use Rattle.vx_document.specs.Steps.{StepSeen, filter_by_of, filter_of, filter_seen, kept_by, kept_of_steps, seen_of, slice_of, step_of, step_seen, steps_of, take_of, without_mask}

-- ---- the step in what is seen of it

abbrev first_of : Option StepSeen → Option StepValue
first_of seen = seen >>= λ s. Some s.0

plain_first : (step : Option StepValue) → step ≡ first_of (without_mask step)
plain_first None = refl
plain_first (Some s) = refl

mask_first : (mask : Option MaskSeen) → ((mask >>= λ m. Some m.0) >>= λ bits. Some (filter_step bits)) ≡ first_of (mask >>= λ m. Some (filter_step m.0, m.1))
mask_first None = refl
mask_first (Some m) = refl

found_first : (found : Option Data) → ((found >>= mask_of) >>= λ bits. Some (filter_step bits)) ≡ first_of ((found >>= stated_mask) >>= λ m. Some (filter_step m.0, m.1))
unfolding mask_of
found_first None = refl
found_first (Some d) = mask_first (stated_mask d)

filter_first : (d : Data) → filter_of d ≡ first_of (filter_seen d)
unfolding filter_of filter_seen
filter_first d = found_first (get (codes "filter") d)

by_test : (b : Bool) (x y : Option StepValue) (v w : Option StepSeen) → x ≡ first_of v → y ≡ first_of w → (if b then x else y) ≡ first_of (if b then v else w)
by_test true x y v w e l = e
by_test false x y v w e l = l

step-seen : (d : Data) → step_of d ≡ first_of (seen_of d)
unfolding step_of seen_of
step-seen d =
    by_test (is_closed (codes "slice" ∷ []) d) _ _ _ _ (plain_first (slice_of d))
    (by_test (is_closed (codes "filter" ∷ []) d) _ _ _ _ (filter_first d)
    (by_test (is_closed (codes "filter_by" ∷ []) d) _ _ _ _ (plain_first (filter_by_of d))
    (by_test (is_closed (codes "take" ∷ []) d) _ _ _ _ (plain_first (take_of d)) refl)))

-- ---- lists of them

one_more : (seen : Option StepSeen) (rest : Option (List StepSeen)) → (first_of seen >>= λ x. ((rest >>= λ l. Some (map (λ (s : StepSeen). s.0) l)) >>= λ xs. Some (x ∷ xs))) ≡ ((seen >>= λ x. rest >>= λ xs. Some (x ∷ xs)) >>= λ l. Some (map (λ (s : StepSeen). s.0) l))
one_more None rest = refl
one_more (Some s) None = refl
one_more (Some s) (Some l) = refl

each-seen : (ds : Items) → each step_of ds ≡ (each seen_of ds >>= λ l. Some (map (λ (s : StepSeen). s.0) l))
unfolding each
each-seen no_items = refl
each-seen (item d ds) = rw (step-seen d, each-seen ds) (one_more (seen_of d) (each seen_of ds))

-- ---- what was read

map-first : (steps : List Step) → map (λ (s : StepSeen). s.0) (map step_seen steps) ≡ map step_value steps
map-first [] = refl
map-first (s ∷ steps) = ap (λ l. step_value s ∷ l) (map-first steps)

map-kept : (steps : List Step) → map (λ (s : StepSeen). s.1) (map step_seen steps) ≡ map kept_by steps
map-kept [] = refl
map-kept (s ∷ steps) = ap (λ l. kept_by s ∷ l) (map-kept steps)

pub read-steps : (d : Data) (items : Items) (steps : List Step) → as_array d ≡ Some items → each seen_of items ≡ Some (map step_seen steps) → steps_of d ≡ Some (map step_value steps)
unfolding steps_of
read-steps d items steps is seen = rw is (each-seen items ∙ rw seen (ap Some (map-first steps)))

pub read-kept : (d : Data) (items : Items) (steps : List Step) → as_array d ≡ Some items → each seen_of items ≡ Some (map step_seen steps) → kept_of_steps d ≡ Some (map kept_by steps)
unfolding kept_of_steps
read-kept d items steps is seen = rw (is, seen) (ap Some (map-kept steps))

-- ---- what was not

no_steps : (d : Data) → (as_array d >>= each seen_of) ≡ None → steps_of d ≡ None
unfolding steps_of
no_steps d none = by_items (as_array d) none
  where
    by_items : (found : Option Items) → (found >>= each seen_of) ≡ None → (found >>= each step_of) ≡ None
    by_items None is = refl
    by_items (Some items) is = each-seen items ∙ rw is refl

no_kept : (d : Data) → (as_array d >>= each seen_of) ≡ None → kept_of_steps d ≡ None
unfolding kept_of_steps
no_kept d none = rw none refl

pub steps-fail : (d : Data) (e : DocError) → Fails e (as_array d >>= each seen_of) → Fails e (steps_of d)
steps-fail d Malformed none = no_steps d none
steps-fail d NoMemory none = tt

pub kept-fail : (d : Data) (e : DocError) → Fails e (as_array d >>= each seen_of) → Fails e (kept_of_steps d)
kept-fail d Malformed none = no_kept d none
kept-fail d NoMemory none = tt

-- ---- a mask

both_parts : (mask : Option MaskSeen) (m : Mask) → (mask >>= λ s. Some s.0) ≡ Some (mask_bits m) → (mask >>= λ s. Some s.1) ≡ Some (partial_of m) → mask ≡ Some (mask_bits m, partial_of m)
both_parts None m bits kept = absurd cc
both_parts (Some (x, y)) m bits kept =
    let one : x ≡ mask_bits m = cc in
    let other : y ≡ partial_of m = cc in
    rw (one, other) refl

-- a mask that was read is the one that is stated
pub stated : (d : Data) (m : Mask) → mask_of d ≡ Some (mask_bits m) → kept_of d ≡ Some (partial_of m) → stated_mask d ≡ Some (mask_bits m, partial_of m)
unfolding mask_of kept_of
stated d m bits kept = both_parts (stated_mask d) m bits kept

not_both : (mask : Option MaskSeen) → (mask >>= λ s. Some s.0) ≡ None → mask ≡ None
not_both None is = refl
not_both (Some s) is = absurd cc

not_stated : (d : Data) (e : DocError) → Fails e (mask_of d) → Fails e (stated_mask d)
unfolding mask_of
not_stated d Malformed none = not_both (stated_mask d) none
not_stated d NoMemory none = tt

-- a filter without a mask has no meaning
pub filter-fails : (d f : Data) (e : DocError) → get (codes "filter") d ≡ Some f → Fails e (mask_of f) → Fails e (filter_seen d)
unfolding filter_seen
filter-fails d f Malformed is none = rw (is, not_stated f Malformed none) refl
filter-fails d f NoMemory is none = tt
