-- A list of rows that grows by the next one.
use Rattle.std.proofs.Common.{◌≡◌, ℕ, zero, suc, ◌+◌, ◌-◌, ◌<◌, true, List, [], ◌∷◌, ◌++◌, map, length, get_or, take, arith}
use Rattle.std.proofs.lemmas.List.{map_more, map_push}
use Rattle.std.specs.Prelude.{nat_lt}
use Rattle.std.specs.Cmp.{first_so, second_so}
use Rattle.std.proofs.lemmas.Bool.Decides.{nat_tests}
use Rattle.vx_types.specs.RowValue.{null}
use Rattle.vx_model.specs.Column.{Column}
use Rattle.vx_model.specs.Columns.{are_long_past}
use Rattle.vx_model.proofs.Across.{shallow-get}
use Rattle.vx_model.proofs.Columns.{columns_all}
use Rattle.vx_lemmas.proofs.Lists.{slice-none, slice-more}

pub ruleset more_rows = (slice-none, slice-more, map_push)

-- ---- a row of each column

pub row_more : (cs : List Column) (i k : ℕ) (d : Column) → k < length cs → map (λ (c : Column). get_or c.rows i null) (take (k + 1) cs) ≡ map (λ (c : Column). get_or c.rows i null) (take k cs) ++ get_or (get_or cs k d).rows i null ∷ []
row_more cs i k d h = map_more (λ (c : Column). get_or c.rows i null) cs k d h

pub past-get : (cs : List Column) (i k : ℕ) (d : Column) → are_long_past i cs ≡ true → k < length cs → i < length (get_or cs k d).rows
past-get [] i k d h l = absurd (omega arith)
past-get (c ∷ cs) i zero d h l =
    let t : nat_lt i (length c.rows) ≡ true = first_so (nat_lt i (length c.rows)) (are_long_past i cs) h in
    grind (arith, nat_tests)
past-get (c ∷ cs) i (suc k) d h l =
    past-get cs i k d (second_so (nat_lt i (length c.rows)) (are_long_past i cs) h) (omega arith)

pub ruleset row_of_each = (columns_all, row_more, past-get, map_push, shallow-get)
