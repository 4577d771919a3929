-- How far a list of steps has come.
use Rattle.std.proofs.Common.{◌≡◌, ℕ, ◌+◌, ◌<◌, ◌≤◌, Bool, true, false, List, ◌∷◌, map, length, drop, get_or, Option, Some, None, refl, sym, ap, ◌∙◌, subst, arith, add-one, drop-cons}
use Rattle.std.proofs.lemmas.List.{length-map, get_or-map, drop_all}
use Rattle.std.proofs.lemmas.List.FromFn.{length-map-range_with_len}
use Rattle.std.proofs.lemmas.Bool.Decides.{nat_tests}
use Rattle.std.specs.Prelude.{◌==◌, if◌then◌else◌}
use Rattle.std.specs.Option.{option_map}
use Rattle.vx_pieces.specs.Indices.{index_fault, index_picks}
use Rattle.vx_pieces.specs.declared.fault.IndexFault.{IndexFault}
use Rattle.vx_pieces.proofs.IndexLists.{length-index_picks}
use Rattle.vx_steps.specs.Step.{StepValue, slice_step, filter_step, filter_by_step, take_step, step_value}
use Rattle.vx_steps.specs.declared.step.Step.{Step}
use Rattle.vx_steps.specs.Walk.{broken, cause_of, apply, rows_left, Walk, walk_fault, walk_picks, unless_broken, walk_from, all_positions, walk}
use Rattle.vx_steps.specs.Check.{HasCount}
use Rattle.vx_steps.specs.declared.cause.Cause.{Cause}
use Rattle.vx_steps.specs.declared.cause.Cause.TheVariants.{BadMask, NotBool}
use Rattle.vx_column.specs.Truth.{true_bits}
use Rattle.vx_reading.specs.BoolRows.{is_bool_type}
use Rattle.vx_reading.proofs.TruthBits.{length-true_bits}
use Rattle.vx_model.proofs.Takes.{length-at, map-at}
use Rattle.vx_model.proofs.Items.{length-slice_range, map-slice_range, map-items_where_true}
use Rattle.vx_mask.proofs.RankedItems.{length-items_where_true}

-- the steps before number k are done: picks are left, of which P holds, and the rest of the walk
-- goes on from them
pub record Reached (n : ℕ) (steps : List StepValue) (k : ℕ) (P : List (Option ℕ) → Type 0) : Type 0 where
  pub picks : List (Option ℕ)
  pub so : P picks
  pub rest : walk n steps ≡ walk_from k picks (drop k steps)

pub reached_start : (n : ℕ) (steps : List StepValue) (P : List (Option ℕ) → Type 0) → P (all_positions n) → Reached n steps 0 P
reached_start n steps P p = record { picks = all_positions n; so = p; rest = refl }

next_walk : (n : ℕ) (steps : List StepValue) (k : ℕ) (picks : List (Option ℕ)) (s : StepValue) → walk n steps ≡ walk_from k picks (drop k steps) → k < length steps → s ≡ get_or steps k s
    → walk n steps ≡ unless_broken (broken s (length picks)) k (walk_from (k + 1) (apply None s picks) (drop (k + 1) steps))
next_walk n steps k picks s rest h is =
    let cut : drop k steps ≡ s ∷ drop (k + 1) steps = drop-cons steps k s h ∙ rw (← is, add-one) refl in
    rest ∙ ap (walk_from k picks) cut

module _ (n : ℕ) (steps : List StepValue) (k : ℕ) (P : List (Option ℕ) → Type 0) (r : Reached n steps k P) (s : StepValue) (h : k < length steps) (is : s ≡ get_or steps k s) where
  pub reached_next : (Q : List (Option ℕ) → Type 0) → broken s (length r.picks) ≡ None → Q (apply None s r.picks) → Reached n steps (k + 1) Q
  reached_next Q sound q = record { picks = apply None s r.picks; so = q; rest = next_walk n steps k r.picks s r.rest h is ∙ ap (λ b. unless_broken b k (walk_from (k + 1) (apply None s r.picks) (drop (k + 1) steps))) sound }

  pub reached_fault : (cause : Cause) → broken s (length r.picks) ≡ Some cause → walk n steps ≡ walk_fault k cause
  reached_fault cause b = next_walk n steps k r.picks s r.rest h is ∙ ap (λ b. unless_broken b k (walk_from (k + 1) (apply None s r.picks) (drop (k + 1) steps))) b

  no_fault : (b : Option Cause) (w rest : Walk) (count : ℕ) → w ≡ unless_broken b k rest → HasCount w count → b ≡ None
  no_fault None w rest count e c = refl
  no_fault (Some cause) w rest count e c = let P : Walk → Type 0 = λ v. HasCount v count in absurd (subst P e c)

  -- where the whole list breaks no rule, the next step breaks none
  pub reached_sound : (count : ℕ) → HasCount (walk n steps) count → broken s (length r.picks) ≡ None
  reached_sound count c = no_fault _ (walk n steps) _ count (next_walk n steps k r.picks s r.rest h is) c

pub reached_end : (n : ℕ) (steps : List StepValue) (k : ℕ) (P : List (Option ℕ) → Type 0) (r : Reached n steps k P) → length steps ≤ k → walk n steps ≡ walk_picks r.picks
reached_end n steps k P r h = r.rest ∙ ap (walk_from k r.picks) (drop_all k steps h)

-- a step that breaks no rule leaves as many items as it says
pub length-apply : {X : Type 0} (missing : X) (s : StepValue) (items : List X) (n : ℕ) → length items ≡ n → broken s n ≡ None → length (apply missing s items) ≡ rows_left s
length-apply missing (slice_step start end) items n count sound =
    let within : (start ≤ end) × (end ≤ n) = grind (arith, nat_tests) in
    length-slice_range items start end within.0 (omega (arith, within.1, count))
length-apply missing (filter_step bits) items n count sound =
    let same : length bits ≡ n = grind (arith, nat_tests) in
    length-items_where_true bits items (same ∙ sym count)
length-apply missing (filter_by_step column) items n count sound =
    let same : length column.rows ≡ n = long (is_bool_type column.dtype) (length column.rows) sound in
    length-items_where_true (true_bits column) items (length-true_bits column ∙ same ∙ sym count)
  where
    long : (typed : Bool) (m : ℕ) → (if typed then (if m == n then None else Some (BadMask m n)) else Some NotBool) ≡ None → m ≡ n
    long true m h = grind (arith, nat_tests)
    long false m h = cc
length-apply missing (take_step indices) items n count sound =
    length-at missing items (index_picks indices) ∙ length-index_picks indices n (no_cause (cause_of n) (index_fault indices n) sound)
  where
    no_cause : (f : IndexFault → Cause) (fault : Option IndexFault) → option_map f fault ≡ None → fault ≡ None
    no_cause f None h = refl
    no_cause f (Some x) h = cc

-- what a step does to a list of things that are made of others, it does to the others
pub map-apply : {X Y : Type 0} (f : X → Y) (missing : X) (s : StepValue) (items : List X) → map f (apply missing s items) ≡ apply (f missing) s (map f items)
map-apply f missing (slice_step start end) items = map-slice_range f items start end
map-apply f missing (filter_step bits) items = map-items_where_true f bits items
map-apply f missing (filter_by_step column) items = map-items_where_true f (true_bits column) items
map-apply f missing (take_step indices) items = map-at f missing items (index_picks indices)

pub length-all_positions : (n : ℕ) → length (all_positions n) ≡ n
length-all_positions n = length-map-range_with_len (λ (i : ℕ). Some i) 0 n

-- a step of a list of them, as a value
pub step_at : (steps : List Step) (k : ℕ) (s : Step) → k < length steps → s ≡ get_or steps k s → step_value s ≡ get_or (map step_value steps) k (step_value s)
step_at steps k s h is = ap step_value is ∙ sym (get_or-map step_value steps k s (step_value s) h)

pub step_within : (steps : List Step) (k : ℕ) → k < length steps → k < length (map step_value steps)
step_within steps k h = omega (arith, length-map steps step_value)

pub steps_end : (steps : List Step) (k : ℕ) → length steps ≤ k → length (map step_value steps) ≤ k
steps_end steps k h = omega (arith, length-map steps step_value)

pub count_at_end : (w : Walk) (picks : List (Option ℕ)) (n : ℕ) → w ≡ walk_picks picks → length picks ≡ n → HasCount w n
count_at_end w picks n e h = let P : Walk → Type 0 = λ v. HasCount v n in subst P (sym e) (sym h)
