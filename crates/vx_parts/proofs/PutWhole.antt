-- The parts' answers, put together, are the whole's.
use Rattle.std.proofs.Common.{◌≡◌, ℕ, zero, suc, ◌+◌, ◌<◌, List, [], ◌∷◌, length, map, slice_range, Option, Some, None, refl, sym, ap, ◌∙◌, subst, arith, slice_index}
use Rattle.std.specs.Prelude.{IfSome, slice_get}
use Rattle.std.specs.List.{sum}
use Rattle.std.proofs.lemmas.List.{length-map}
use Rattle.vx_types.specs.RowValue.{RowValue, null}
use Rattle.vx_types.specs.TypeTree.{TypeTree, also_nullable}
use Rattle.vx_model.specs.Column.{Column}
use Rattle.vx_steps.specs.Step.{StepValue}
use Rattle.vx_steps.specs.Walk.{walk}
use Rattle.vx_steps.specs.Answer.{answer_of, answer_rows, type_after}
use Rattle.vx_steps.specs.Compose.{IsUnbroken}
use Rattle.vx_interleave.specs.Places.{joined, list_of}
use Rattle.vx_interleave.specs.Sources.{rows_of}
use Rattle.vx_interleave.specs.declared.place.Place.{Place}
use Rattle.vx_parts.specs.Bounds.{bounds_of}
use Rattle.vx_parts.specs.Cuts.{as_step, carried_by, cuts_of, from_take}
use Rattle.vx_parts.specs.Plan.{ArePartsOf, IsRest, left_bounds, order_in, own_at, steps_in}
use Rattle.vx_parts.specs.Putting.{AreAnswersTo, IsPartAnswer, put_rows, put_type}
use Rattle.vx_parts.specs.declared.plan.Plan.{Plan}
use Rattle.vx_parts.proofs.CutRows.{cut_first, sound_cuts}
use Rattle.vx_parts.proofs.OwnSteps.{answer_sound, own_left, picked_items}
use Rattle.vx_parts.proofs.PartSlices.{sum_lengths, tiles}
use Rattle.vx_parts.proofs.PickCuts.{cut_long}
use Rattle.vx_parts.proofs.Planned.{left_are}
use Rattle.vx_parts.proofs.PlannedParts.{IsPlannedPart, left_count, left_end, long_left, planned_part}
use Rattle.vx_parts.proofs.PutPicks.{put_picks}
use Rattle.vx_parts.proofs.Walked.{AreSound, apply_all, sound_of}
use Rattle.vx_steps.proofs.StepTypes.{type_after-takes}

-- a column of a list, and what holds of it
pub record IsColumnAt (columns : List Column) (k : ℕ) (P : Column → Type 0) : Type 0 where
  pub column : Column
  pub is : slice_get columns k ≡ Some column
  pub rows_are : list_of (rows_of columns) k ≡ column.rows
  pub so : P column

column_at : (columns : List Column) (k : ℕ) (P : Column → Type 0) → k < length columns → IfSome (slice_get columns k) P → IsColumnAt columns k P
column_at [] k P h so = absurd (omega arith)
column_at (c ∷ columns) zero P h so = record { column = c; is = refl; rows_are = refl; so = so }
column_at (c ∷ columns) (suc k) P h so =
    let r = column_at columns k P (omega arith) so in record { column = r.column; is = r.is; rows_are = r.rows_are; so = r.so }

-- what a part answers by steps that break no rule and keep the type
pub record IsAnswered (t : TypeTree) (part : List RowValue) (ss : List StepValue) (c : Column) : Type 0 where
  pub rows : c.rows ≡ apply_all null ss part
  pub dtype : c.dtype ≡ t

answered : (t : TypeTree) (rows : List RowValue) (ss : List StepValue) (c : Column) → AreSound (length rows) ss → type_after t ss ≡ t → IsPartAnswer t rows ss c → IsAnswered t rows ss c
answered t rows ss c sound typed h =
    let same : answer_rows c.dtype c.rows ≡ answer_rows (type_after t ss) (apply_all null ss rows) = sym h ∙ answer_sound t rows ss sound in
    let type_is : c.dtype ≡ type_after t ss = cc in
    record { rows = cc; dtype = type_is ∙ typed }

pub sound_whole : (parts : List (List RowValue)) (ss : List StepValue) → IsUnbroken (walk (sum (map length parts)) ss) → AreSound (length (joined parts)) ss
sound_whole parts ss h = sound_of (length (joined parts)) ss (subst (λ (n : ℕ). IsUnbroken (walk n ss)) (sum_lengths parts) h)

module _ (t : TypeTree) (parts : List (List RowValue)) (ss : List StepValue) (plan : Plan) (answers : List Column) (a : AreAnswersTo t parts ss plan answers) where
  sound : AreSound (length (joined parts)) ss
  sound = sound_whole parts ss a.unbroken

  pub long_answers : length (rows_of answers) ≡ length parts
  long_answers = length-map answers (λ (c : Column). c.rows) ∙ a.own.many

  module _ (own : Option (List (List ℕ))) (each : ArePartsOf (cuts_of ss) (bounds_of (map length parts)) (left_bounds (map length parts) ss) own plan.parts.items) where
    pub part_at : (k : ℕ) → k < length parts → IsPlannedPart parts ss plan.parts.items own k
    part_at k h = planned_part parts ss sound k h plan.parts.items own a.planned.many each

    pub answer_at : (k : ℕ) → k < length parts → IsColumnAt answers k (IsAnswered t (list_of parts k) (list_of (steps_in plan.parts.items) k))
    answer_at k h =
        let part = part_at k h in
        let r = column_at answers k (IsPartAnswer t (list_of parts k) (list_of (steps_in plan.parts.items) k)) (omega (arith, h, a.own.many)) (a.own.each k h) in
        record { column = r.column; is = r.is; rows_are = r.rows_are; so = answered t (list_of parts k) (list_of (steps_in plan.parts.items) k) r.column part.sound (part.typed t) r.so }

    pub rows_at : (k : ℕ) → k < length parts
        → list_of (rows_of answers) k ≡ own_left (own_at own k) (slice_range (apply_all null (map as_step (cuts_of ss)) (joined parts)) (slice_index (left_bounds (map length parts) ss) k) (slice_index (left_bounds (map length parts) ss) (k + 1)))
    rows_at k h = let r = answer_at k h in r.rows_are ∙ r.so.rows ∙ (part_at k h).rows

  put_case : (rest : List StepValue) (own : Option (List (List ℕ))) (order : Option (List (Option Place))) → from_take ss ≡ rest → IsRest (left_bounds (map length parts) ss) rest own order
      → ArePartsOf (cuts_of ss) (bounds_of (map length parts)) (left_bounds (map length parts) ss) own plan.parts.items
      → put_rows order (rows_of answers) ≡ apply_all null rest (apply_all null (map as_step (cuts_of ss)) (joined parts))
  put_case [] None None is r each =
      tiles (apply_all null (map as_step (cuts_of ss)) (joined parts)) (left_bounds (map length parts) ss) (left_are (map length parts) ss) (left_end parts ss sound) (rows_of answers) (omega (arith, long_answers, long_left parts ss sound))
      (λ k h. rows_at None each k (omega (arith, h, long_answers)))
  put_case [] None (Some order) is r each = absurd r
  put_case [] (Some own) None is r each = absurd r
  put_case [] (Some own) (Some order) is r each = absurd r
  put_case (s ∷ rest) None None is r each = absurd r
  put_case (s ∷ rest) None (Some order) is r each = absurd r
  put_case (s ∷ rest) (Some own) None is r each = absurd r
  put_case (s ∷ rest) (Some own) (Some order) is r each =
      let items = apply_all null (map as_step (cuts_of ss)) (joined parts) in
      let left = left_bounds (map length parts) ss in
      let many = cut_long left r.picks own order r.cut in
      let sound_rest : AreSound (length items) (s ∷ rest) = subst (λ (n : ℕ). AreSound n (s ∷ rest)) (sym (left_count parts ss sound))
      (subst (AreSound (carried_by (cuts_of ss) (length (joined parts)))) is (sound_cuts ss (length (joined parts)) sound).after) in
      put_picks null items left (left_are (map length parts) ss) r.picks own order r.cut (rows_of answers) (λ k h. rows_at (Some own) each k (omega (arith, h, many, long_left parts ss sound)))
      ∙ picked_items null items (s ∷ rest) r.picks sound_rest (ap (λ (n : ℕ). walk n (s ∷ rest)) (sym (left_end parts ss sound)) ∙ r.composed)

  -- what is put together is the whole's answer
  pub put_whole : (dtype : TypeTree) (rows : List RowValue) → dtype ≡ put_type t plan → rows ≡ put_rows (order_in plan) (rows_of answers) → answer_of t (joined parts) ss ≡ answer_rows dtype rows
  put_whole dtype rows d is =
      answer_sound t (joined parts) ss sound
      ∙ ap (λ (u : TypeTree). answer_rows u (apply_all null ss (joined parts))) (type_after-takes t ss ∙ ap (also_nullable t) (sym a.planned.nullability) ∙ sym d)
      ∙ ap (answer_rows dtype) (cut_first null ss (joined parts) ∙ sym (put_case (from_take ss) a.planned.own (order_in plan) refl a.planned.rest a.planned.parts) ∙ sym is)
