-- What steps that break no rule leave of rows, and a part's own steps of its rows.
use Rattle.std.proofs.Common.{◌≡◌, ℕ, ◌-◌, ◌≤◌, List, [], ◌∷◌, ◌++◌, length, map, slice_range, get_or, Option, Some, None, refl, sym, ap, ◌∙◌, subst, arith}
use Rattle.std.specs.Option.{option_map}
use Rattle.std.specs.List.{range_with_len}
use Rattle.std.proofs.lemmas.List.{length-map}
use Rattle.std.proofs.lemmas.List.FromFn.{fill_by_all}
use Rattle.std.proofs.lemmas.Simd.{map-map}
use Rattle.vx_types.specs.RowValue.{RowValue, null}
use Rattle.vx_types.specs.TypeTree.{TypeTree, also_nullable}
use Rattle.vx_model.proofs.Items.{length-slice_range}
use Rattle.vx_model.proofs.Nullabilities.{also_nullable-none}
use Rattle.vx_take.specs.Picks.{at, item_at}
use Rattle.vx_steps.specs.Step.{StepValue, slice_step, filter_step, filter_by_step, take_step}
use Rattle.vx_steps.specs.Walk.{all_positions, apply, broken, cause_of, rows_left, walk, walk_picks}
use Rattle.vx_steps.specs.Answer.{answer_of, answer_of_walk, answer_rows, type_after}
use Rattle.vx_steps.proofs.Walks.{length-apply}
use Rattle.vx_parts.specs.Cuts.{CutValue, slice_cut, filter_cut, as_step, carried_by, own_cuts}
use Rattle.vx_parts.specs.Plan.{AreOwn, IsTakeOf}
use Rattle.vx_parts.proofs.BoundLists.{carried_by-ordered}
use Rattle.vx_parts.proofs.CutRows.{OwnRows}
use Rattle.vx_parts.proofs.Walked.{AreSound, apply_all, map-apply_all, walk_of}

-- ---- answers by items alone

-- at every position lie just the items
every_item : {X : Type 0} (missing : X) (items : List X) → at missing items (all_positions (length items)) ≡ items
every_item {X} missing items =
    let f : ℕ → X = λ i. get_or items i missing in
    map-map (item_at missing items) (λ (i : ℕ). Some i) (range_with_len 0 (length items)) ∙ sym (fill_by_all f items (length items) missing refl (λ k h. refl))

pub answer_sound : (t : TypeTree) (rows : List RowValue) (ss : List StepValue) → AreSound (length rows) ss → answer_of t rows ss ≡ answer_rows (type_after t ss) (apply_all null ss rows)
answer_sound t rows ss sound =
    ap (answer_of_walk (type_after t ss) rows) (walk_of (length rows) ss sound)
    ∙ ap (answer_rows (type_after t ss)) (map-apply_all (item_at null rows) None ss (all_positions (length rows)) ∙ ap (apply_all null ss) (every_item null rows))

-- the items at the picks that steps leave are what they leave of the items
pub picked_items : {X : Type 0} (missing : X) (items : List X) (ss : List StepValue) (picks : List (Option ℕ)) → AreSound (length items) ss → walk (length items) ss ≡ walk_picks picks → at missing items picks ≡ apply_all missing ss items
picked_items missing items ss picks sound w =
    let same : walk_picks picks ≡ walk_picks (apply_all None ss (all_positions (length items))) = sym w ∙ walk_of (length items) ss sound in
    let is : picks ≡ apply_all None ss (all_positions (length items)) = cc in
    ap (at missing items) is ∙ map-apply_all (item_at missing items) None ss (all_positions (length items)) ∙ ap (apply_all missing ss) (every_item missing items)

-- ---- one step more

-- how many rows are left behind steps
abbrev pub left_after : ℕ → List StepValue → ℕ
left_after n [] = n
left_after n (s ∷ ss) = left_after (rows_left s) ss

pub length-apply_all : {X : Type 0} (missing : X) (ss : List StepValue) (items : List X) → AreSound (length items) ss → length (apply_all missing ss items) ≡ left_after (length items) ss
length-apply_all missing [] items h = refl
length-apply_all missing (s ∷ ss) items h =
    let count = length-apply missing s items (length items) refl h.0 in
    length-apply_all missing ss (apply missing s items) (subst (λ (n : ℕ). AreSound n ss) (sym count) h.1) ∙ ap (λ n. left_after n ss) count

sound_last : (n : ℕ) (ss : List StepValue) (s : StepValue) → AreSound n ss → broken s (left_after n ss) ≡ None → AreSound n (ss ++ s ∷ [])
sound_last n [] s h b = (b, tt)
sound_last n (x ∷ ss) s h b = (h.0, sound_last (rows_left x) ss s h.1 b)

apply_last : {X : Type 0} (missing : X) (ss : List StepValue) (s : StepValue) (items : List X) → apply_all missing (ss ++ s ∷ []) items ≡ apply missing s (apply_all missing ss items)
apply_last missing [] s items = refl
apply_last missing (x ∷ ss) s items = apply_last missing ss s (apply missing x items)

-- a take of a part's own picks
take_sound : (n : ℕ) (own : List ℕ) (s : StepValue) → IsTakeOf n own s → broken s n ≡ None
take_sound n own (slice_step start end) h = absurd h
take_sound n own (filter_step bits) h = absurd h
take_sound n own (filter_by_step column) h = absurd h
take_sound n own (take_step indices) h = ap (option_map (cause_of n)) h.1

take_rows : (n : ℕ) (own : List ℕ) (s : StepValue) (rows : List RowValue) → IsTakeOf n own s → apply null s rows ≡ at null rows (map (λ p. Some p) own)
take_rows n own (slice_step start end) rows h = absurd h
take_rows n own (filter_step bits) rows h = absurd h
take_rows n own (filter_by_step column) rows h = absurd h
take_rows n own (take_step indices) rows h = ap (at null rows) h.0

type_cuts : (t : TypeTree) (cs : List CutValue) → type_after t (map as_step cs) ≡ t
type_cuts t [] = refl
type_cuts t (slice_cut start end ∷ cs) = type_cuts t cs
type_cuts t (filter_cut bits ∷ cs) = type_cuts t cs

type_take : (t : TypeTree) (n : ℕ) (own : List ℕ) (s : StepValue) → IsTakeOf n own s → type_after t (s ∷ []) ≡ t
type_take t n own (slice_step start end) h = absurd h
type_take t n own (filter_step bits) h = absurd h
type_take t n own (filter_by_step column) h = absurd h
type_take t n own (take_step indices) h = ap (also_nullable t) h.2 ∙ also_nullable-none t

type_last : (t : TypeTree) (cs : List CutValue) (n : ℕ) (own : List ℕ) (s : StepValue) → IsTakeOf n own s → type_after t (map as_step cs ++ s ∷ []) ≡ t
type_last t [] n own s h = type_take t n own s h
type_last t (slice_cut start end ∷ cs) n own s h = type_last t cs n own s h
type_last t (filter_cut bits ∷ cs) n own s h = type_last t cs n own s h

-- ---- a part's own steps

-- the rows at a part's own picks, and all where nothing is picked
abbrev pub own_left : Option (List ℕ) → List RowValue → List RowValue
own_left None rows = rows
own_left (Some own) rows = at null rows (map (λ p. Some p) own)

-- the steps of the part from row `low` up to row `high` break no rule over its rows, keep the type,
-- and leave so many rows: of what the cuts leave of the whole its own
pub record IsPartDone (items : List RowValue) (cs : List CutValue) (low high : ℕ) (own : Option (List ℕ)) (ss : List StepValue) (len : ℕ) : Type 0 where
  pub sound : AreSound (length (slice_range items low high)) ss
  pub typed : (t : TypeTree) → type_after t ss ≡ t
  pub rows : apply_all null ss (slice_range items low high) ≡ own_left own (slice_range (apply_all null (map as_step cs) items) (carried_by cs low) (carried_by cs high))
  pub count : length (apply_all null ss (slice_range items low high)) ≡ len

module _ (items : List RowValue) (cs : List CutValue) (low high : ℕ) (ordered : low ≤ high) (within : high ≤ length items) (o : OwnRows null cs items low high) where
  cuts_sound : AreSound (length (slice_range items low high)) (map as_step (own_cuts cs low high))
  cuts_sound = subst (λ (n : ℕ). AreSound n (map as_step (own_cuts cs low high))) (sym (length-slice_range items low high ordered within)) o.sound

  many_left : length (slice_range (apply_all null (map as_step cs) items) (carried_by cs low) (carried_by cs high)) ≡ carried_by cs high - carried_by cs low
  many_left =
      let last = carried_by-ordered cs high (length items) within in
      length-slice_range (apply_all null (map as_step cs) items) (carried_by cs low) (carried_by cs high) (carried_by-ordered cs low high ordered) (omega (arith, last, o.left))

  pub part_done : (own : Option (List ℕ)) (ss : List StepValue) (n len : ℕ) → n ≡ carried_by cs high - carried_by cs low → AreOwn (map as_step (own_cuts cs low high)) n own ss len → IsPartDone items cs low high own ss len
  part_done None ss n len left are =
      let rows = slice_range items low high in
      let is = ap (λ (xs : List StepValue). apply_all null xs rows) are.0 ∙ o.rows in
      record {
        sound = subst (AreSound (length rows)) (sym are.0) cuts_sound;
        typed = λ t. ap (type_after t) are.0 ∙ type_cuts t (own_cuts cs low high);
        rows = is;
        count = ap length is ∙ many_left ∙ sym left ∙ sym are.1;
      }
  part_done (Some own) ss n len left are =
      let rows = slice_range items low high in
      let cuts = map as_step (own_cuts cs low high) in
      let kept = slice_range (apply_all null (map as_step cs) items) (carried_by cs low) (carried_by cs high) in
      let last = are.0.last in
      let many : n ≡ left_after (length (slice_range items low high)) (map as_step (own_cuts cs low high)) =
      left ∙ sym many_left ∙ ap length (sym o.rows) ∙ length-apply_all null cuts rows cuts_sound in
      let is = ap (λ (xs : List StepValue). apply_all null xs rows) are.0.steps_are ∙ apply_last null cuts last rows ∙ take_rows n own last (apply_all null cuts rows) are.0.taken
      ∙ ap (λ (l : List RowValue). at null l (map (λ p. Some p) own)) o.rows in
      record {
        sound = subst (AreSound (length rows)) (sym are.0.steps_are) (sound_last (length rows) cuts last cuts_sound (subst (λ (m : ℕ). broken last m ≡ None) many (take_sound n own last are.0.taken)));
        typed = λ t. ap (type_after t) are.0.steps_are ∙ type_last t (own_cuts cs low high) n own last are.0.taken;
        rows = is;
        count = ap length is ∙ length-map (map (λ p. Some p) own) (item_at null kept) ∙ length-map own (λ (p : ℕ). Some p) ∙ sym are.1;
      }
