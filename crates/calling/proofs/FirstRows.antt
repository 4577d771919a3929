-- What `select` answers to one slice from the first row on.
use Rattle.std.proofs.Common.{◌≡◌, ℕ, ◌≤◌, Bool, true, false, ◌&&◌, ◌||◌, List, [], ◌∷◌, length, take, None, refl, sym, ap, ◌∙◌, arith}
use Rattle.std.specs.Prelude.{slice_range}
use Rattle.std.proofs.lemmas.Bool.Decides.{nat_tests}
use Rattle.vortex_select.specs.TypeTree.{TypeTree}
use Rattle.vortex_select.specs.RowValue.{RowValue}
use Rattle.vortex_select.specs.Column.{Column}
use Rattle.vortex_select.specs.Plain.{is_null_layout, is_plain}
use Rattle.vortex_select.specs.Step.{slice_step}
use Rattle.vortex_select.specs.Walk.{all_positions, broken, unless_broken, walk_picks}
use Rattle.vortex_select.specs.Answer.{Answer, answer, answer_fault, answer_rows}
use Rattle.vortex_select.specs.Cause.{MatchError}
use Rattle.vortex_select.specs.SelectErrors.{SelectError}
use Rattle.vortex_select.specs.SelectErrors.TheVariants.{Broken, NoMemory}
use Rattle.vortex_select.specs.Select.{IsRows, needs_no_memory}
use Rattle.vortex_select.proofs.Walks.{length-all_positions}
use Rattle.vortex_select.proofs.Selecting.{answered, at-all_positions, at-apply}

-- the slice breaks no rule
sound : (len n : ℕ) → n ≤ len → broken (slice_step 0 n) (length (all_positions len)) ≡ None
sound len n h = ap (broken (slice_step 0 n)) (length-all_positions len) ∙ grind (arith, nat_tests)

pub first_answer : (c : Column) (n : ℕ) → n ≤ length c.rows → answer c (slice_step 0 n ∷ []) ≡ answer_rows c.dtype (take n c.rows)
first_answer c n h =
    let len = length c.rows in
    let picks = slice_range (all_positions len) 0 n in
    let cut : slice_range c.rows 0 n ≡ take n c.rows = ap (λ m. take m c.rows) (omega arith) in
    answered c (slice_step 0 n ∷ []) picks c.dtype (take n c.rows)
    (ap (λ b. unless_broken b 0 (walk_picks picks)) (sound len n h)) refl
    (at-apply c.rows (slice_step 0 n) (all_positions len) c.rows (at-all_positions c.rows) ∙ cut)

-- where no step is broken and no memory is wanted there is no error
pub no_error : (e : SelectError) (a : Answer) (t : TypeTree) (rows : List RowValue) → a ≡ answer_rows t rows → MatchError e (λ k cause. a ≡ answer_fault k cause) (IsRows a) → (e ≡ NoMemory → ⊥) → ⊥
no_error (Broken k cause) a t rows is m h = let same : answer_rows t rows ≡ answer_fault k cause = sym is ∙ m in cc
no_error NoMemory a t rows is m h = h refl

either : (none plain : Bool) → plain ≡ true → (none || (plain && true)) ≡ true
either true plain h = refl
either false true h = refl
either false false h = h

pub free_slice : (c : Column) (n : ℕ) → is_plain c ≡ true → needs_no_memory c (slice_step 0 n ∷ []) ≡ true
free_slice c n h = either (is_null_layout c.layout) (is_plain c) h
