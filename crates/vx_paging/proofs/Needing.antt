-- A slice behind steps, and the same in front of them.
use Rattle.std.proofs.Common.{◌≡◌, ℕ, zero, suc, add-one, ◌+◌, ◌-◌, ◌≤◌, ◌<◌, Bool, true, false, List, [], ◌∷◌, ◌++◌, length, map, take, drop, get_or, slice_range, Option, Some, None, refl, sym, ap, ap₂, inl, inr, ◌∙◌, subst, arith}
use Rattle.std.specs.Prelude.{◌==◌, ◌||◌, if◌then◌else◌, ◌&&◌, nat_le, min}
use Rattle.std.specs.List.{items_where_true, list_any}
use Rattle.std.proofs.Math.Seq.{take-nil}
use Rattle.std.proofs.lemmas.Bool.{cases_lt, or_parts}
use Rattle.std.proofs.lemmas.Bool.Decides.{nat_tests}
use Rattle.std.proofs.lemmas.List.{append_assoc, drop_all, length-drop, length_push, map-append, take_all}
use Rattle.vx_mask.specs.Mask.{mask_bits}
use Rattle.vx_mask.specs.declared.mask.Mask.{Mask}
use Rattle.vx_mask.specs.declared.mask.Mask.TheVariants.{AllTrue, AllFalse, Values}
use Rattle.vx_mask.specs.declared.policy.PolicyFields.{PolicyFields}
use Rattle.vx_mask.specs.MaskValues.{PartialMask, keep_indices}
use Rattle.vx_mask.specs.Reuse.{mask_for_reuse, wants_indices}
use Rattle.vx_model.proofs.Items.{length-slice_range}
use Rattle.vx_model.proofs.KeptItems.{slice-items}
use Rattle.vx_column.specs.Truth.{true_bits}
use Rattle.vx_model.specs.Column.{Column}
use Rattle.vx_steps.specs.Step.{StepValue, slice_step, filter_step, filter_by_step, step_value}
use Rattle.vx_steps.specs.declared.step.Step.{Step}
use Rattle.vx_steps.specs.declared.step.Step.TheVariants.{Filter}
use Rattle.vx_steps.specs.Walk.{Walk, walk_fault, walk_picks, walk_from, walk, all_positions, apply, broken, rows_left, unless_broken}
use Rattle.vx_steps.specs.Check.{HasCount}
use Rattle.vx_types.specs.Nullability.{either_nullable}
use Rattle.vx_types.specs.declared.nullability.Nullability.{Nullability}
use Rattle.vx_types.specs.declared.nullability.Nullability.TheVariants.{NonNullable, Nullable}
use Rattle.vx_steps.specs.Compose.{IsFaultOf, IsPartOf, IsUnbroken, step_nullability, takes_nullability}
use Rattle.vx_steps.specs.declared.cause.SelectError.{SelectError}
use Rattle.vx_steps.specs.declared.cause.SelectError.TheVariants.{Broken, NoMemory}
use Rattle.vx_steps.specs.declared.cause.Cause.{Cause}
use Rattle.vx_steps.proofs.Cuts.{slice_range-slice_range}
use Rattle.vx_steps.proofs.Walks.{length-apply}
use Rattle.vx_paging.specs.Needed.{IsPartBefore, Leaves, filters_back, is_take, left_by, left_of}
use Rattle.vx_steps.proofs.Unbroken.{long_column, within_slice, long_mask}

-- ---- masks, the last one first

-- the mask that is pushed is the first of the filters
pub filters_back-push : (masks : List Mask) (m : Mask) → filters_back (masks ++ m ∷ []) ≡ filter_step (mask_bits m) ∷ filters_back masks
filters_back-push [] m = refl
filters_back-push (x ∷ masks) m = ap (λ l. l ++ filter_step (mask_bits x) ∷ []) (filters_back-push masks m)

-- the last mask goes behind the steps
pub one_more : (done next : List Step) (old rest : List Mask) (m : Mask) (all : List StepValue) → old ≡ rest ++ m ∷ [] → next ≡ done ++ Filter m ∷ [] → map step_value done ++ filters_back old ≡ all → map step_value next ++ filters_back rest ≡ all
one_more done next old rest m all popped pushed so =
    ap (λ l. map step_value l ++ filters_back rest) pushed
    ∙ ap (λ l. l ++ filters_back rest) (map-append step_value done (Filter m ∷ []))
    ∙ append_assoc (map step_value done) (filter_step (mask_bits m) ∷ []) (filters_back rest)
    ∙ sym (ap (λ l. map step_value done ++ l) (ap filters_back popped ∙ filters_back-push rest m))
    ∙ so

pub popped_len : (old rest : List Mask) (m : Mask) (n k : ℕ) → old ≡ rest ++ m ∷ [] → length old + k ≡ n → length rest + (k + 1) ≡ n
popped_len old rest m n k popped so = omega (arith, ap length popped, length_push rest m, so)

-- ---- what a mask is made ready for

reuse-values : (b : Bool) (m : PartialMask) → (if b then keep_indices m else m).bits.bits ≡ m.bits.bits
reuse-values true m = refl
reuse-values false m = refl

-- it selects the same rows
pub reuse-bits : (m : Mask) (n : ℕ) (fields : PolicyFields) → mask_bits (mask_for_reuse m n fields) ≡ mask_bits m
reuse-bits (AllTrue len) n fields = refl
reuse-bits (AllFalse len) n fields = refl
reuse-bits (Values m) n fields = reuse-values (wants_indices m n fields) m

-- the filter by a part of a mask that was pushed
pub added-part : (masks more : List Mask) (part ready : Mask) (bits : List Bool) (start end n : ℕ) (fields : PolicyFields) → more ≡ masks ++ ready ∷ [] → ready ≡ mask_for_reuse part n fields → mask_bits part ≡ slice_range bits start end
    → filters_back more ≡ filter_step (slice_range bits start end) ∷ filters_back masks
added-part masks more part ready bits start end n fields pushed is cut =
    ap filters_back pushed ∙ filters_back-push masks ready
    ∙ ap (λ b. filter_step b ∷ filters_back masks) (ap mask_bits is ∙ reuse-bits part n fields ∙ cut)

-- ---- one step

-- a filter in front of others
walk-filter : (k : ℕ) (items : List (Option ℕ)) (bits : List Bool) (rest : List StepValue) → length bits ≡ length items → walk_from k items (filter_step bits ∷ rest) ≡ walk_from (k + 1) (items_where_true bits items) rest
walk-filter k items bits rest same =
    let fits : (length bits == length items) ≡ true = grind (arith, nat_tests) in
    rw fits refl

pub before-slice : (s e a b : ℕ) (masks : List Mask) (items left : List (Option ℕ)) → s ≤ e → e ≤ length items → Leaves a b masks (slice_range items s e) left → Leaves (s + a) (s + b) masks items left
before-slice s e a b masks items left h l r =
    let few : length (slice_range items s e) ≡ e - s = length-slice_range items s e h l in
    let inside : b ≤ e - s = omega (arith, r.within, few) in
    record {
      ordered = omega (arith, r.ordered);
      within = omega (arith, inside, h, l);
      walked = λ k. ap (λ xs. walk_from k xs (filters_back masks)) (sym (slice_range-slice_range items s e a b h l r.ordered inside)) ∙ r.walked k;
    }

pub before-mask : (bits : List Bool) (a b start end : ℕ) (masks more : List Mask) (items left : List (Option ℕ)) → length bits ≡ length items → IsPartBefore bits a b start end masks more → Leaves a b masks (items_where_true bits items) left → Leaves start end more items left
before-mask bits a b start end masks more items left same p r =
    let part = slice_range bits start end in let rows = slice_range items start end in
    let as_long : length part ≡ length rows = length-slice_range bits start end p.ordered p.within ∙ sym (length-slice_range items start end p.ordered (omega (arith, p.within, same))) in
    record {
      ordered = p.ordered;
      within = omega (arith, p.within, same);
      walked = λ k.
          ap (walk_from k rows) p.added
          ∙ walk-filter k rows part (filters_back masks) as_long
          ∙ ap (λ xs. walk_from (k + 1) xs (filters_back masks)) (sym (slice-items bits items a b start end same p.ordered p.within p.low_count p.high_count))
          ∙ r.walked (k + 1);
    }

-- by a step that is such a one
module _ (v : StepValue) (a b start end : ℕ) (masks more : List Mask) (items left : List (Option ℕ)) (sound : broken v (length items) ≡ None) (r : Leaves a b masks (apply None v items) left) where
  sound_as : (w : StepValue) → v ≡ w → broken w (length items) ≡ None
  sound_as w is = subst (λ x. broken x (length items) ≡ None) is sound

  left_as : (w : StepValue) → v ≡ w → Leaves a b masks (apply None w items) left
  left_as w is = subst (λ x. Leaves a b masks (apply None x items) left) is r

  pub by-slice : (s e : ℕ) → v ≡ slice_step s e → start ≡ s + a → end ≡ s + b → more ≡ masks → Leaves start end more items left
  by-slice s e is first last kept =
      let inside = within_slice s e (length items) (sound_as (slice_step s e) is) in
      rw (first, last, kept) (before-slice s e a b masks items left inside.0 inside.1 (left_as (slice_step s e) is))

  pub by-mask : (bits : List Bool) → v ≡ filter_step bits → IsPartBefore bits a b start end masks more → Leaves start end more items left
  by-mask bits is p =
      before-mask bits a b start end masks more items left (long_mask bits (length items) (sound_as (filter_step bits) is)) p (left_as (filter_step bits) is)

  pub by-column : (column : Column) → v ≡ filter_by_step column → IsPartBefore (true_bits column) a b start end masks more → Leaves start end more items left
  by-column column is p =
      before-mask (true_bits column) a b start end masks more items left (long_column column (length items) (sound_as (filter_by_step column) is)) p (left_as (filter_by_step column) is)

-- of equal bits the same part
pub part_of : {bits same : List Bool} {a b start end : ℕ} {masks more : List Mask} → bits ≡ same → IsPartBefore bits a b start end masks more → IsPartBefore same a b start end masks more
part_of {a = a} {b = b} {start = start} {end = end} {masks = masks} {more = more} is p = subst (λ (x : List Bool). IsPartBefore x a b start end masks more) is p

-- ---- takes

pub no_take : (steps : List StepValue) (k : ℕ) (s : StepValue) → list_any is_take steps ≡ false → k < length steps → s ≡ get_or steps k s → is_take s ≡ false
no_take [] k s none h is = absurd (omega arith)
no_take (x ∷ steps) zero s none h is = ap is_take is ∙ (or_parts (is_take x) (list_any is_take steps) none).0
no_take (x ∷ steps) (suc k) s none h is = no_take steps k s (or_parts (is_take x) (list_any is_take steps) none).1 (omega arith) is

pub any_more : (steps : List StepValue) (k : ℕ) (s : StepValue) → k < length steps → s ≡ get_or steps k s → list_any is_take (drop k steps) ≡ (is_take s || list_any is_take (drop (suc k) steps))
any_more [] k s h is = absurd (omega arith)
any_more (x ∷ steps) zero s h is = ap (λ b. b || list_any is_take steps) (ap is_take (sym is))
any_more (x ∷ steps) (suc k) s h is = any_more steps k s (omega arith) is

-- of the steps from this one on one is a take where this one is, and otherwise where one behind it
-- is
pub any_here : (steps : List StepValue) (k : ℕ) (s : StepValue) → k < length steps → s ≡ get_or steps k s → list_any is_take (drop k steps) ≡ list_any is_take steps → is_take s ≡ true → true ≡ list_any is_take steps
any_here steps k s h is so taken = sym (any_more steps k s h is ∙ ap (λ b. b || list_any is_take (drop (suc k) steps)) taken) ∙ so

pub any_next : (steps : List StepValue) (k : ℕ) (s : StepValue) → k < length steps → s ≡ get_or steps k s → list_any is_take (drop k steps) ≡ list_any is_take steps → is_take s ≡ false → list_any is_take (drop (k + 1) steps) ≡ list_any is_take steps
any_next steps k s h is so kept =
    rw add-one (sym (any_more steps k s h is ∙ ap (λ b. b || list_any is_take (drop (suc k) steps)) kept) ∙ so)

-- ---- all steps

module _ (j : ℕ) (b : Option Cause) (rest : Walk) (ps : List (Option ℕ)) where
  sound_step : unless_broken b j rest ≡ walk_picks ps → (b ≡ None) × (rest ≡ walk_picks ps)
  sound_step is = by_cause b is
    where
      by_cause : (c : Option Cause) → unless_broken c j rest ≡ walk_picks ps → (c ≡ None) × (rest ≡ walk_picks ps)
      by_cause None is = (refl, is)
      by_cause (Some x) is = absurd cc

-- the first steps break no rule where all don't, and the next one goes on from what they leave
pub left_by-more : (j : ℕ) (items ps : List (Option ℕ)) (steps : List StepValue) (k : ℕ) (s : StepValue) → walk_from j items steps ≡ walk_picks ps → k < length steps → s ≡ get_or steps k s
    → (broken s (length (left_by k items steps)) ≡ None) × (left_by (suc k) items steps ≡ apply None s (left_by k items steps))
left_by-more j items ps [] k s w h is = absurd (omega arith)
left_by-more j items ps (x ∷ steps) zero s w h is =
    let now = sound_step j (broken x (length items)) (walk_from (j + 1) (apply None x items) steps) ps w in
    let same : s ≡ x = is in
    (ap (λ y. broken y (length items)) same ∙ now.0, ap (λ y. apply None y items) (sym same))
left_by-more j items ps (x ∷ steps) (suc k) s w h is =
    let now = sound_step j (broken x (length items)) (walk_from (j + 1) (apply None x items) steps) ps w in
    left_by-more (j + 1) (apply None x items) ps steps k s now.1 (omega arith) is

pub left_by-all : (j : ℕ) (items ps : List (Option ℕ)) (steps : List StepValue) → walk_from j items steps ≡ walk_picks ps → left_by (length steps) items steps ≡ ps
left_by-all j items ps [] w = let same : items ≡ ps = cc in same
left_by-all j items ps (x ∷ steps) w =
    let now = sound_step j (broken x (length items)) (walk_from (j + 1) (apply None x items) steps) ps w in
    left_by-all (j + 1) (apply None x items) ps steps now.1

-- ---- the walk over all rows

by_walk : (n : ℕ) (steps : List StepValue) (w : Walk) → walk n steps ≡ w → IsUnbroken w → walk n steps ≡ walk_picks (left_of n steps)
by_walk n steps (walk_fault k cause) is h = absurd h
by_walk n steps (walk_picks ps) is h = is ∙ ap walk_picks (sym (left_by-all 0 (all_positions n) ps steps is))

-- where no step is broken
pub walk-left : (n : ℕ) (steps : List StepValue) → IsUnbroken (walk n steps) → walk n steps ≡ walk_picks (left_of n steps)
walk-left n steps h = by_walk n steps (walk n steps) refl h

-- what the steps up to this one leave, by what those before it do
pub step_back : (n : ℕ) (steps : List StepValue) (k j : ℕ) (s : StepValue) → IsUnbroken (walk n steps) → j ≡ suc k → k < length steps → s ≡ get_or steps k s
    → (broken s (length (left_by k (all_positions n) steps)) ≡ None) × (left_by j (all_positions n) steps ≡ apply None s (left_by k (all_positions n) steps))
step_back n steps k j s unbroken next h is =
    let both = left_by-more 0 (all_positions n) (left_of n steps) steps k s (walk-left n steps unbroken) h is in
    (both.0, ap (λ i. left_by i (all_positions n) steps) next ∙ both.1)

-- so many rows does it leave
pub rows_within : (s : StepValue) (before after : List (Option ℕ)) (end : ℕ) → broken s (length before) ≡ None → after ≡ apply None s before → end ≤ length after → end ≤ rows_left s
rows_within s before after end sound is h = omega (arith, h, ap length is, length-apply None s before (length before) refl sound)

-- ---- the answer

-- what was narrowed, as a list of steps
pub walk-needed : (n a b : ℕ) (masks : List Mask) (left : List (Option ℕ)) → Leaves a b masks (all_positions n) left → walk n (slice_step a b ∷ filters_back masks) ≡ walk_picks left
walk-needed n a b masks left r =
    let ordered = r.ordered in let within = r.within in
    let fits : (nat_le a b && nat_le b (length (all_positions n))) ≡ true = grind (arith, nat_tests) in
    rw fits (r.walked 1)

-- a range that is cut to a list's length
pub clipped : {X : Type 0} (xs : List X) (s e : ℕ) → s ≤ e → slice_range xs (min s (length xs)) (min e (length xs)) ≡ slice_range xs s e
clipped xs s e h =
    let n = length xs in
    elim (cases_lt n s) [
      | inl past ↦
          let low : min s n ≡ n = omega arith in let high : min e n ≡ n = omega arith in
          ap₂ (slice_range xs) low high ∙ ap (take (n - n)) (drop_all n xs (omega arith)) ∙ take-nil (n - n)
          ∙ sym (ap (take (e - s)) (drop_all s xs (omega arith)) ∙ take-nil (e - s))
      | inr before ↦ elim (cases_lt n e) [
        | inl past ↦
            let low : min s n ≡ s = omega arith in let high : min e n ≡ n = omega arith in
            ap₂ (slice_range xs) low high ∙ take_all (n - s) (drop s xs) (omega (arith, length-drop s xs))
            ∙ sym (take_all (e - s) (drop s xs) (omega (arith, length-drop s xs)))
        | inr within ↦ ap₂ (slice_range xs) (omega arith) (omega arith)
      ]
    ]

takes-append : (xs : List StepValue) (s : StepValue) → takes_nullability xs ≡ NonNullable → step_nullability s ≡ NonNullable → takes_nullability (xs ++ s ∷ []) ≡ NonNullable
takes-append [] s h k = rw k refl
takes-append (x ∷ xs) s h k =
    let both = neither_nullable (step_nullability x) (takes_nullability xs) h in
    rw (both.0, takes-append xs s both.1 k) refl
  where
    neither_nullable : (a b : Nullability) → either_nullable a b ≡ NonNullable → (a ≡ NonNullable) × (b ≡ NonNullable)
    neither_nullable NonNullable b h = (refl, h)
    neither_nullable Nullable b h = let no : Nullable ≡ NonNullable = h in absurd cc

-- filters leave no nulls
pub filters-there : (masks : List Mask) → takes_nullability (filters_back masks) ≡ NonNullable
filters-there [] = refl
filters-there (m ∷ masks) = takes-append (filters_back masks) (filter_step (mask_bits m)) (filters-there masks) refl

-- where or_parts list of steps is broken, `NoMemory` alone is left
pub other_fault : (v w : Walk) (ps qs : List (Option ℕ)) → v ≡ walk_picks ps → w ≡ walk_picks qs → (e : SelectError) → IsFaultOf v e → IsFaultOf w e
other_fault v w ps qs is same (Broken k cause) h = absurd (apart (sym h ∙ is))
  where
    apart : walk_fault k cause ≡ walk_picks ps → ⊥
    apart e = absurd cc
other_fault v w ps qs is same NoMemory h = subst IsUnbroken (sym same) tt

pub counted_left : (n : ℕ) (steps : List StepValue) (count : ℕ) → HasCount (walk n steps) count → IsUnbroken (walk n steps) × (count ≡ length (left_of n steps))
counted_left n steps count h = by_count (walk n steps) refl h
  where
    by_count : (w : Walk) → walk n steps ≡ w → HasCount w count → IsUnbroken (walk n steps) × (count ≡ length (left_of n steps))
    by_count (walk_fault k cause) is h = absurd h
    by_count (walk_picks ps) is h =
        (subst IsUnbroken (sym is) tt, h ∙ ap length (sym (left_by-all 0 (all_positions n) ps steps is)))

-- the part that was asked for
pub part_left : (n : ℕ) (steps : List StepValue) (start end count : ℕ) (part : List (Option ℕ)) → start ≤ end → HasCount (walk n steps) count → part ≡ slice_range (left_of n steps) (min start count) (min end count) → IsPartOf (walk n steps) start end part
part_left n steps start end count part h counts is =
    let both = counted_left n steps count counts in
    subst (λ w. IsPartOf w start end part) (sym (walk-left n steps both.0))
    (is ∙ ap₂ (λ a b. slice_range (left_of n steps) a b) (ap (min start) both.1) (ap (min end) both.1) ∙ clipped (left_of n steps) start end h)

-- the part that the steps make that were brought together
pub needed_part : (n : ℕ) (steps made : List StepValue) (start end low high count a b : ℕ) (masks : List Mask) (part : List (Option ℕ)) → start ≤ end → HasCount (walk n steps) count → low ≡ min start count → high ≡ min end count → made ≡ slice_step a b ∷ filters_back masks
    → Leaves a b masks (all_positions n) (slice_range (left_of n steps) low high) → walk n made ≡ walk_picks part → IsPartOf (walk n steps) start end part
needed_part n steps made start end low high count a b masks part h counts first last is needed walked =
    let left = slice_range (left_of n steps) low high in
    let both : walk_picks part ≡ walk_picks left = sym walked ∙ ap (walk n) is ∙ walk-needed n a b masks left needed in
    let same : part ≡ left = cc in
    part_left n steps start end count part h counts (same ∙ ap₂ (λ i j. slice_range (left_of n steps) i j) first last)

-- they leave no nulls
pub made-there : (made : List StepValue) (a b : ℕ) (masks : List Mask) → made ≡ slice_step a b ∷ filters_back masks → takes_nullability made ≡ NonNullable
made-there made a b masks is = ap takes_nullability is ∙ filters-there masks
