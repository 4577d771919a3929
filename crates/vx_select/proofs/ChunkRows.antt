-- The rows at picks of a column behind a decoder.
use Rattle.std.proofs.Common.{◌≡◌, ℕ, ◌+◌, ◌<◌, ◌≤◌, Bool, true, false, List, length, map, take, drop, Option, Some, sym, ap, ap₂, ◌∙◌, subst, arith}
use Rattle.std.specs.Prelude.{slice_get, IsErrAnd, OnErr, OnOk, Result, Ok, Err}
use Rattle.std.proofs.lemmas.Bool.Decides.{nat_tests}
use Rattle.vx_types.specs.Decimal.{is_width}
use Rattle.std.specs.List.{items_where_true}
use Rattle.std.proofs.lemmas.List.{length-drop, length-map, length-take-le}
use Rattle.vx_bits.specs.BitBuffer.{true_count_of}
use Rattle.vx_types.specs.TypeTree.{TypeTree, also_nullable}
use Rattle.vx_types.specs.declared.nullability.Nullability.{Nullability}
use Rattle.vx_types.specs.RowValue.{RowValue, null, bytes}
use Rattle.vx_mask.specs.Positions.{set_of}
use Rattle.vx_mask.proofs.PositionLists.{length-positions, set_below}
use Rattle.vx_mask.proofs.RankedItems.{items_at_the_set}
use Rattle.vx_take.specs.Picks.{at}
use Rattle.vx_model.specs.Column.{Column}
use Rattle.vx_model.specs.Valid.{Valid, is_fitting, present_bits, stored_rows, IsLeft}
use Rattle.vx_model.proofs.StoredRows.{length-stored_rows}
use Rattle.vx_model.proofs.Takes.{take-stored}
use Rattle.vx_decoder.proofs.ReadPlaces.{part_at}
use Rattle.vx_steps.specs.Step.{StepValue}
use Rattle.vx_steps.specs.Walk.{Walk, walk_fault, walk_picks, walk}
use Rattle.vx_steps.specs.Cause.{MatchError}
use Rattle.vx_steps.specs.declared.cause.SelectError.{SelectError}
use Rattle.vx_steps.specs.declared.cause.SelectError.TheVariants.{Broken, NoMemory}
use Rattle.vx_steps.specs.Answer.{Answer, type_after, answer_fault, answer_rows, answer_of, answer_of_walk}
use Rattle.vx_steps.specs.Compose.{IsFaultOf, IsUnbroken, takes_nullability}
use Rattle.vx_select.specs.Select.{IsAnswer, IsRows}
use Rattle.vx_steps.specs.Shape.{ShapeValue}
use Rattle.vx_select.specs.Chunks.{chunk_rows, chunk_values}
use Rattle.vx_lemmas.proofs.Options.{some_same}
use Rattle.vx_steps.proofs.StepTypes.{type_after-takes}
use Rattle.vx_lemmas.proofs.Picked.{same_items}

-- ---- the values that are kept

-- there are as many as set positions
pub kept_count : {X : Type 0} (kept : List X) (f : ℕ → Option X) (bits : List Bool) → map Some kept ≡ map f (set_of bits) → length kept ≡ true_count_of bits
kept_count kept f bits h =
    sym (length-map kept Some) ∙ ap length h ∙ length-map (set_of bits) f ∙ length-positions 0 bits

module _ {X : Type 0} (values : List X) (offset len : ℕ) (inside : offset + len ≤ length values) where
  pub length-part : length (take len (drop offset values)) ≡ len
  length-part = length-take-le len (drop offset values) (omega (arith, length-drop offset values))

  pub kept_items : (kept : List X) (bits : List Bool) → length bits ≡ len → map Some kept ≡ map (λ p. slice_get values (offset + p)) (set_of bits) → kept ≡ items_where_true bits (take len (drop offset values))
  kept_items kept bits long h =
      let part = take len (drop offset values) in
      same_items kept (items_where_true bits part)
      (h ∙ sym (part_at values offset len (set_of bits) (set_below bits len long)) ∙ sym (items_at_the_set bits part (long ∙ sym length-part)))

-- ---- widths and results

-- a width of records is small
pub width_small : (w : ℕ) → is_width w ≡ true → w < 64
width_small w h = grind (arith, nat_tests)

-- the type's width is one of records
pub is_width-by : (o : Option ℕ) (a w : ℕ) → o ≡ Some w → o ≡ Some a → is_width a ≡ true → is_width w ≡ true
is_width-by o a w h k is = let P : ℕ → Type 0 = λ n. is_width n ≡ true in subst P (some_same a w (sym k ∙ h)) is

-- what holds at any rate holds after a value, and after an error
pub on_ok : {T E : Type 0} {P : Type 0} (r : Result T E) → P → OnOk r P
on_ok (Ok x) p = p
on_ok (Err e) p = tt

pub on_err : {T E : Type 0} {P : Type 0} (r : Result T E) → P → OnErr r P
on_err (Ok x) p = tt
on_err (Err e) p = p

-- ---- the rows

module _ (s : ShapeValue) (values : List (List ℕ)) (inside : s.offset + s.len ≤ length values) (fit : is_fitting s.valid s.len ≡ true) where
  -- as many as the shape says
  pub length-chunk_rows : length (chunk_rows s values) ≡ s.len
  length-chunk_rows =
      let items = map bytes (take s.len (drop s.offset values)) in
      let long : length items ≡ s.len = length-map (take s.len (drop s.offset values)) bytes ∙ length-part values s.offset s.len inside in
      let P : ℕ → Type 0 = λ n. is_fitting s.valid n ≡ true in
      length-stored_rows s.valid items (subst P (sym long) fit) ∙ long

  -- the records at the picks, with what is left of the validity
  pub taken_rows : (w : Valid) (n : Nullability) (picks : List (Option ℕ)) (bound : ℕ) → bound ≡ s.len → (records : List (List ℕ)) (missing : List ℕ) → IsLeft s.valid n (at false (present_bits s.valid bound) picks) w → records ≡ at missing (chunk_values s values) picks → stored_rows w (map bytes records) ≡ at null (chunk_rows s values) picks
  taken_rows w n picks bound whole records missing left same =
      let part = chunk_values s values in
      let count : length (map bytes part) ≡ s.len = length-map part bytes ∙ length-part values s.offset s.len inside in
      let P : ℕ → Type 0 = λ m. is_fitting s.valid m ≡ true in
      let Q : ℕ → Type 0 = λ m. IsLeft s.valid n (at false (present_bits s.valid m) picks) w in
      ap (λ l. stored_rows w (map bytes l)) same
      ∙ take-stored bytes missing part s.valid w n (subst P (sym count) fit) picks (subst Q (whole ∙ sym count) left)

-- ---- the answer

module _ (t : TypeTree) (rows : List RowValue) (steps : List StepValue) (n : ℕ) (long : length rows ≡ n) where
  -- that of these picks
  pub answered_rows : (picks : List (Option ℕ)) (u : TypeTree) (left : List RowValue) → walk n steps ≡ walk_picks picks → u ≡ also_nullable t (takes_nullability steps) → left ≡ at null rows picks → answer_of t rows steps ≡ answer_rows u left
  answered_rows picks u left w d r =
      ap (answer_of_walk (type_after t steps) rows) (ap (λ m. walk m steps) long ∙ w)
      ∙ ap₂ answer_rows (type_after-takes t steps ∙ sym d) (sym r)

  rows_by_walk : (w : Walk) → IsUnbroken w → IsRows (answer_of_walk (type_after t steps) rows w)
  rows_by_walk (walk_fault k cause) h = absurd h
  rows_by_walk (walk_picks picks) h = tt

  -- `NoMemory` comes only where no step is broken
  pub answered_unbroken : IsUnbroken (walk n steps) → IsRows (answer_of t rows steps)
  answered_unbroken h =
      let P : ℕ → Type 0 = λ m. IsUnbroken (walk m steps) in
      rows_by_walk (walk (length rows) steps) (subst P (sym long) h)

  -- and else the error is the fault
  pub answered_fault : (e : SelectError) → IsFaultOf (walk n steps) e → MatchError e (λ k cause. answer_of t rows steps ≡ answer_fault k cause) (IsRows (answer_of t rows steps))
  answered_fault (Broken k cause) h = ap (answer_of_walk (type_after t steps) rows) (ap (λ m. walk m steps) long ∙ h)
  answered_fault NoMemory h = answered_unbroken h

-- where there are picks no step is broken
pub unbroken_picks : (w : Walk) (picks : List (Option ℕ)) → w ≡ walk_picks picks → IsUnbroken w
unbroken_picks w picks e = subst IsUnbroken (sym e) tt

-- the answer after an error
pub answered_err : (r : Result Column SelectError) (a : Answer) (e : SelectError) → IsErrAnd r (λ x. x ≡ e) → MatchError e (λ k cause. a ≡ answer_fault k cause) (IsRows a) → IsAnswer r a
answered_err (Ok c) a e h m = absurd h
answered_err (Err x) a e h m =
    let P : SelectError → Type 0 = λ y. MatchError y (λ k cause. a ≡ answer_fault k cause) (IsRows a) in
    subst P (sym h) m

-- as many rows as the shape says
pub count_by_shape : (s : ShapeValue) (values : List (List ℕ)) (n : ℕ) → s.offset + s.len ≤ length values → n ≡ s.len → is_fitting s.valid n ≡ true → length (chunk_rows s values) ≡ n
count_by_shape s values n inside e fit =
    let P : ℕ → Type 0 = λ m. is_fitting s.valid m ≡ true in
    length-chunk_rows s values inside (subst P e fit) ∙ sym e
