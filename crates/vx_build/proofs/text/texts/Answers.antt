-- Each text is a row.
use Rattle.std.proofs.Common.{◌≡◌, IfOk, List, ℕ, Bor, subst}
use Rattle.vx_types.specs.RowValue.{RowValue}
use Rattle.vx_build.proofs.TextLists.{rows_of_texts}
use Rattle.vx_build.proofs.text.texts.Goals as goal

pub into_array-requires-clause-cut : goal.into_array-requires-clause-cut
into_array-requires-clause-cut c = c.in_ok-join_texts.ensures.cut

pub returns-clause-rows : goal.returns-clause-rows
returns-clause-rows c =
    subst (λ (rows : List RowValue). IfOk c.into_array.result (λ k. k.rows ≡ rows))
    (rows_of_texts {X = Bor (List ℕ)} (λ text. text.now) c.args.values.now _ c.in_ok-join_texts.ensures.texts)
    c.into_array.ensures.rows
