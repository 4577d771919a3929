-- Names that codes name, and those that a mask keeps.
use Rattle.std.proofs.Common.{◌≡◌, ℕ, Bool, List, [], ◌∷◌, length, map, Option, Some, None, Ok, Err, refl, ap, subst, ◌∙◌, arith}
use Rattle.std.specs.Prelude.{Result}
use Rattle.std.specs.Prelude.{pos}
use Rattle.std.specs.List.{items_where_true}
use Rattle.std.specs.Option.{option_map}
use Rattle.std.proofs.lemmas.Bool.Decides.{nat_tests}
use Rattle.vortex_select.specs.Positions.{positions_of}
use Rattle.vortex_select.specs.Column.{Column}
use Rattle.vortex_select.specs.Step.{filter_step}
use Rattle.vortex_select.specs.Walk.{all_positions, broken, unless_broken, walk_picks}
use Rattle.vortex_select.specs.Answer.{answer, answer_fault, answer_rows}
use Rattle.vortex_select.specs.Causes.{Cause}
use Rattle.vortex_select.specs.SelectErrors.{SelectError}
use Rattle.vortex_select.specs.SelectErrors.TheVariants.{Broken}
use Rattle.vortex_select.specs.Select.{IsAnswer, IsSelection}
use Rattle.vortex_select.proofs.Walks.{length-all_positions}
use Rattle.vortex_select.proofs.Selecting.{answered, at-all_positions, at-apply}

-- codes are the positions that they are
pub codes_back : (codes : List (Option ℕ)) → positions_of (map (option_map pos) codes) ≡ codes
codes_back [] = refl
codes_back (None ∷ codes) = ap (λ l. None ∷ l) (codes_back codes)
codes_back (Some n ∷ codes) = ap (λ l. Some n ∷ l) (codes_back codes)

-- the filter breaks no rule
sound : (bits : List Bool) (n : ℕ) → length bits ≡ n → broken (filter_step bits) (length (all_positions n)) ≡ None
sound bits n h = ap (broken (filter_step bits)) (length-all_positions n) ∙ grind (arith, nat_tests)

pub kept_answer : (c : Column) (bits : List Bool) → length bits ≡ length c.rows → answer c (filter_step bits ∷ []) ≡ answer_rows c.dtype (items_where_true bits c.rows)
kept_answer c bits h =
    let len = length c.rows in
    let picks = items_where_true bits (all_positions len) in
    answered c (filter_step bits ∷ []) picks c.dtype (items_where_true bits c.rows)
    (ap (λ b. unless_broken b 0 (walk_picks picks)) (sound bits len h)) refl
    (at-apply c.rows (filter_step bits) (all_positions len) c.rows (at-all_positions c.rows))

-- so there is no broken step
pub filter_answer : (c : Column) (mask bits : List Bool) → mask ≡ bits → length bits ≡ length c.rows → answer c (filter_step mask ∷ []) ≡ answer_rows c.dtype (items_where_true bits c.rows)
filter_answer c mask bits e h = ap (λ (b : List Bool). answer c (filter_step b ∷ [])) e ∙ kept_answer c bits h

pub unbroken : (c : Column) (mask bits : List Bool) → mask ≡ bits → length bits ≡ length c.rows → (r : Result Column SelectError) (k : ℕ) (cause : Cause) → r ≡ Err (Broken k cause) → IsSelection c (filter_step mask ∷ []) r → ⊥
unbroken c mask bits e h r k cause is selected =
    let told : answer c (filter_step mask ∷ []) ≡ answer_fault k cause = subst (λ (x : Result Column SelectError). IsAnswer x (answer c (filter_step mask ∷ []))) is selected.answer in
    let rows = filter_answer c mask bits e h in
    cc

pub kept_rows : (c : Column) (mask bits : List Bool) → mask ≡ bits → length bits ≡ length c.rows → (r : Result Column SelectError) (a : Column) → r ≡ Ok a → IsSelection c (filter_step mask ∷ []) r → a.rows ≡ items_where_true bits c.rows
kept_rows c mask bits e h r a is selected =
    let told : answer c (filter_step mask ∷ []) ≡ answer_rows a.dtype a.rows = subst (λ (x : Result Column SelectError). IsAnswer x (answer c (filter_step mask ∷ []))) is selected.answer in
    let rows = filter_answer c mask bits e h in
    cc
