-- The texts under the validity.
use Rattle.std.proofs.Common.{map, length, ap, sym, ◌∙◌}
use Rattle.std.proofs.lemmas.List.{length-map}
use Rattle.vx_types.specs.RowValue.{bytes}
use Rattle.vx_types.specs.Text.{text_kind}
use Rattle.vx_column.specs.Validity.{valid_of}
use Rattle.vx_interleave.specs.Rows.{rows_in, stored_as}
use Rattle.vx_interleave.proofs.Shown.{fits, shown}
use Rattle.vx_interleave.proofs.texts.gather_texts.Goals as goal
use Rattle.vx_lemmas.proofs.Results.{if_ok}

pub into_array-requires-clause-fitting : goal.into_array-requires-clause-fitting
into_array-requires-clause-fitting c =
    let rows = rows_in c.args.cells.now in let k = text_kind c.args.kind in let j = c.in_ok-texts.ensures in
    fits c.args.nullability rows (valid_of c.in_ok-validity.validity) _ c.in_ok-validity.ensures
    (ap length j.cut.texts ∙ sym (length-map j.texts bytes) ∙ ap length j.rows_are ∙ length-map rows (stored_as k))

pub returns-clause-rows : goal.returns-clause-rows
returns-clause-rows c =
    let rows = rows_in c.args.cells.now in let k = text_kind c.args.kind in let j = c.in_ok-texts.ensures in
    if_ok c.into_array.result c.into_array.ensures.rows (λ a is. is
    ∙ shown c.args.nullability k rows _ (valid_of c.in_ok-validity.validity) c.in_ok-validity.ensures (ap (map bytes) j.cut.texts ∙ j.rows_are))
