-- The rows that a list of steps picks.
use Rattle.std.proofs.Common.{◌≡◌, ℕ, zero, suc, ◌+◌, ◌<◌, ◌≤◌, add-one, drop, drop-cons, Bool, true, false, ◌&&◌, ◌||◌, ◌⊎◌, inl, inr, List, [], ◌∷◌, length, get_or, Option, Some, None, refl, sym, ap, ◌∙◌, arith}
use Rattle.std.specs.List.{range_with_len, list_all}
use Rattle.std.proofs.lemmas.List.{length-map, drop_all}
use Rattle.std.proofs.lemmas.Simd.{map-map}
use Rattle.std.proofs.lemmas.List.FromFn.{fill_by_all}
use Rattle.vx_types.specs.TypeTree.{TypeTree, is_flat}
use Rattle.vx_types.specs.RowValue.{RowValue, null}
use Rattle.vx_model.specs.Column.{Column}
use Rattle.vx_types.specs.declared.layout_name.LayoutName.{LayoutName}
use Rattle.vx_model.specs.Valid.{is_constant_form, is_bools}
use Rattle.vx_model.specs.Plain.{is_row_layout, is_unwrapped, is_null_layout, is_in_place, is_plain}
use Rattle.vx_take.specs.Picks.{at, item_at}
use Rattle.vx_model.specs.Step.{IsStep}
use Rattle.vx_steps.specs.Step.{StepValue, slice_step, filter_step, filter_by_step, take_step, is_slice}
use Rattle.vx_steps.specs.Walk.{apply, all_positions, walk_picks, walk}
use Rattle.vx_steps.specs.Answer.{type_after, type_after_step, answer_of_walk, answer_rows, answer}
use Rattle.vx_select.specs.Select.{needs_no_memory}
use Rattle.vx_steps.proofs.Walks.{map-apply}

-- at every position lie just the rows
pub at-all_positions : (rows : List RowValue) → at null rows (all_positions (length rows)) ≡ rows
at-all_positions rows =
    let f = λ (i : ℕ). get_or rows i null in
    map-map (item_at null rows) (λ (i : ℕ). Some i) (range_with_len 0 (length rows)) ∙ sym (fill_by_all f rows (length rows) null refl (λ k h. refl))

-- a step picks of the rows at picks what it does of the picks
pub at-apply : (rows : List RowValue) (s : StepValue) (picks : List (Option ℕ)) (now : List RowValue) → at null rows picks ≡ now → at null rows (apply None s picks) ≡ apply null s now
at-apply rows s picks now h = map-apply (item_at null rows) None s picks ∙ ap (apply null s) h

pub length-now : (rows : List RowValue) (picks : List (Option ℕ)) (now : List RowValue) → at null rows picks ≡ now → length now ≡ length picks
length-now rows picks now h = ap length (sym h) ∙ length-map picks (item_at null rows)

pub answered : (c : Column) (steps : List StepValue) (picks : List (Option ℕ)) (t : TypeTree) (rows : List RowValue) → walk (length c.rows) steps ≡ walk_picks picks → type_after c.dtype steps ≡ t → at null c.rows picks ≡ rows → answer c steps ≡ answer_rows t rows
answered c steps picks t rows w d r = ap (answer_of_walk (type_after c.dtype steps) c.rows) w ∙ ap (λ u. answer_rows u (at null c.rows picks)) d ∙ ap (answer_rows t) r

-- the type after the steps that are left, of which the next one is s
pub type_after-next : (t : TypeTree) (steps : List StepValue) (k : ℕ) (s : StepValue) → k < length steps → s ≡ get_or steps k s → type_after t (drop k steps) ≡ type_after (type_after_step t s) (drop (k + 1) steps)
type_after-next t steps k s h is =
    let cut : drop k steps ≡ s ∷ drop (k + 1) steps = drop-cons steps k s h ∙ rw (← is, add-one) refl in
    ap (type_after t) cut

-- and where none is left
pub left_at_end : (t : TypeTree) (steps : List StepValue) (k : ℕ) → length steps ≤ k → type_after t (drop k steps) ≡ t
left_at_end t steps k h = ap (type_after t) (drop_all k steps h)

-- a step leaves a flat type flat
pub is_flat-step : (t : TypeTree) (s : StepValue) → is_flat (type_after_step t s) ≡ is_flat t
is_flat-step t (slice_step start end) = refl
is_flat-step t (filter_step bits) = refl
is_flat-step t (filter_by_step column) = refl
is_flat-step t (take_step indices) = refl

slice_among : (steps : List StepValue) (k : ℕ) (s : StepValue) → list_all is_slice steps ≡ true → k < length steps → s ≡ get_or steps k s → is_slice s ≡ true
slice_among [] k s a h is = absurd (omega arith)
slice_among (slice_step b e ∷ steps) zero s a h is = ap is_slice is
slice_among (filter_step bits ∷ steps) zero s a h is = cc
slice_among (filter_by_step column ∷ steps) zero s a h is = cc
slice_among (take_step i ∷ steps) zero s a h is = cc
slice_among (slice_step b e ∷ steps) (suc k) s a h is = slice_among steps k s a (omega arith) is
slice_among (filter_step bits ∷ steps) (suc k) s a h is = cc
slice_among (filter_by_step column ∷ steps) (suc k) s a h is = cc
slice_among (take_step i ∷ steps) (suc k) s a h is = cc

free_of : (none plain slices : Bool) → (none || (plain && slices)) ≡ true → (none ≡ true) ⊎ ((plain ≡ true) × (slices ≡ true))
free_of true plain slices h = inl refl
free_of false true slices h = inr (refl, h)
free_of false false slices h = let no : false ≡ true = h in cc

null_in_place : (l : LayoutName) → is_null_layout l ≡ true → is_in_place l ≡ true
null_in_place l h = rw h refl

-- what the steps so far left of c: layout `Null` stays, a flat type stays flat, and where all are
-- slices what was plain stays so
pub record IsLeftOf (c : Column) (steps : List StepValue) (k : ℕ) (now : Column) : Type 0 where
  pub dtype : type_after now.dtype (drop k steps) ≡ type_after c.dtype steps
  pub null : is_null_layout c.layout ≡ true → is_null_layout now.layout ≡ true
  pub flat : is_flat now.dtype ≡ is_flat c.dtype
  pub plain : list_all is_slice steps ≡ true → is_plain c ≡ true → is_plain now ≡ true

pub left_at_start : (c : Column) (steps : List StepValue) → IsLeftOf c steps 0 c
left_at_start c steps = record { dtype = refl; null = λ h. h; flat = refl; plain = λ s p. p }

module _ (c : Column) (steps : List StepValue) (k : ℕ) (now next : Column) (left : IsLeftOf c steps k now) (s : StepValue) (h : k < length steps) (is : s ≡ get_or steps k s) where
  pub left_by_step : (rows : List RowValue) → IsStep now rows (type_after_step now.dtype s) next → (is_slice s ≡ true → is_plain now ≡ true → is_plain next ≡ true) → IsLeftOf c steps (k + 1) next
  left_by_step rows step plain =
      record {
        dtype = ap (λ t. type_after t (drop (k + 1) steps)) step.dtype ∙ sym (type_after-next now.dtype steps k s h is) ∙ left.dtype;
        null = λ e. let was = left.null e in ap is_null_layout (step.layout (null_in_place now.layout was)) ∙ was;
        flat = ap is_flat step.dtype ∙ is_flat-step now.dtype s ∙ left.flat;
        plain = λ all p. plain (slice_among steps k s all h is) (left.plain all p);
      }

-- a step that wants no memory: any over layout `Null`, and each of slices alone over a plain column
pub free_step : (c now : Column) (steps : List StepValue) (k : ℕ) (s : StepValue) → needs_no_memory c steps ≡ true → IsLeftOf c steps k now → k < length steps → s ≡ get_or steps k s → (is_null_layout now.layout ≡ true) ⊎ ((is_slice s ≡ true) × (is_plain now ≡ true))
free_step c now steps k s a left h is =
    elim (free_of (is_null_layout c.layout) (is_plain c) (list_all is_slice steps) a)
    [ inl none ↦ inl (left.null none) | inr (plain, slices) ↦ inr (slice_among steps k s slices h is, left.plain slices plain) ]

-- where no step wants memory, what they left is plain
pub left_plain : (c now : Column) (steps : List StepValue) (k : ℕ) → needs_no_memory c steps ≡ true → IsLeftOf c steps k now → is_plain now ≡ true
left_plain c now steps k a left =
    elim (free_of (is_null_layout c.layout) (is_plain c) (list_all is_slice steps) a)
    [ inl none ↦ ap (λ b. b || (is_row_layout now.layout && is_constant_form now.cover)) (left.null none) | inr (plain, slices) ↦ left.plain slices plain ]

unwrapped_by : (none rows constant bools : Bool) → (none || (rows && constant)) ≡ true → (none || (rows && (constant || bools))) ≡ true
unwrapped_by true rows constant bools h = refl
unwrapped_by false true true bools h = refl
unwrapped_by false true false bools h = cc
unwrapped_by false false constant bools h = cc

-- and so unwrapped
pub plain_unwrapped : (c : Column) → is_plain c ≡ true → is_unwrapped c ≡ true
plain_unwrapped c h = unwrapped_by (is_null_layout c.layout) (is_row_layout c.layout) (is_constant_form c.cover) (is_bools c.cover) h

-- whether the steps that are left are slices
pub slices-next : (steps : List StepValue) (k : ℕ) (s : StepValue) → k < length steps → s ≡ get_or steps k s → list_all is_slice (drop k steps) ≡ (is_slice s && list_all is_slice (drop (k + 1) steps))
slices-next steps k s h is =
    let cut : drop k steps ≡ s ∷ drop (k + 1) steps = drop-cons steps k s h ∙ rw (← is, add-one) refl in
    ap (list_all is_slice) cut

pub slices-end : (steps : List StepValue) (k : ℕ) → length steps ≤ k → list_all is_slice (drop k steps) ≡ true
slices-end steps k h = ap (list_all is_slice) (drop_all k steps h)
