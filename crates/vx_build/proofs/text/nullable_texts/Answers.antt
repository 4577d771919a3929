-- Each text is a row, and null is that of none.
use Rattle.std.proofs.Common.{◌≡◌, IfOk, List, ℕ, Bor, subst}
use Rattle.vx_types.specs.RowValue.{RowValue}
use Rattle.vx_build.proofs.TextLists.{fits_texts, rows_of_some_texts}
use Rattle.vx_build.proofs.text.nullable_texts.Goals as goal

pub into_array-requires-clause-fitting : goal.into_array-requires-clause-fitting
into_array-requires-clause-fitting c =
    fits_texts {X = Bor (List ℕ)} (λ text. text.now) c.args.values.now _ _ c.in_ok-validity.ensures c.in_ok-join_texts_or_empty.ensures.texts

pub returns-clause-rows : goal.returns-clause-rows
returns-clause-rows c =
    subst (λ (rows : List RowValue). IfOk c.into_array.result (λ k. k.rows ≡ rows))
    (rows_of_some_texts {X = Bor (List ℕ)} (λ text. text.now) c.args.values.now _ _ c.in_ok-validity.ensures c.in_ok-join_texts_or_empty.ensures.texts)
    c.into_array.ensures.rows
