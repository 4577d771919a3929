-- A code is the position that it names.
use Rattle.std.proofs.Common.{◌≡◌, List, ℕ, Option, ap, ap₂, subst, ◌∙◌}
use Rattle.std.specs.Prelude.{IfOk}
use Rattle.vortex_select.specs.RowValue.{RowValue, null}
use Rattle.vortex_select.specs.Positions.{positions_of}
use Rattle.vortex_select.specs.Picks.{at}
use Rattle.calling.proofs.NameTables.{codes_back}
use Rattle.calling.proofs.names.table.Goals as goal

pub returns : goal.returns
returns c =
    let codes = ap positions_of c.in_ok-nullable_numbers.ensures.numbers ∙ codes_back c.args.codes.now in
    subst (λ (rows : List RowValue). IfOk c.dictionary.result (λ k. k.rows ≡ rows))
    (ap₂ (λ (values : List RowValue) (picks : List (Option ℕ)). at null values picks) c.in_ok-texts.ensures.rows codes)
    c.dictionary.ensures
