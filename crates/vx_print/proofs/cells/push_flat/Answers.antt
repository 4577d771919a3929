-- The row alone stands behind the text: nothing is behind the end of the buffer.
use Rattle.std.proofs.Common.{◌-◌, ◌++◌, ◌∙◌, ◌≤◌, length, length-drop, get_or, ap, ap₂, drop, append-nil, arith}
use Rattle.std.proofs.lemmas.List.{drop_all, take_all}
use Rattle.vx_types.specs.RowValue.{RowValue, null}
use Rattle.vx_types.specs.TypeTree.{TypeTree}
use Rattle.vx_print.specs.Text.{row_text}
use Rattle.vx_print.proofs.cells.push_flat.Goals as goal

pub returns : goal.returns
returns c = λ _.
    let k = c.args.column.now in
    let at = c.put_row-at.result in
    let dst = c.put_row-at.new.dst in
    let row = row_text k.dtype (get_or k.rows c.args.i null) in
    let short : length (drop at dst) ≤ 4352 - at = omega (arith, length-drop at dst) in
    let put = ap₂ (λ (t : TypeTree) (x : RowValue). row_text t x ++ drop 4352 c.args.dst.now) c.dtype.ensures.value c.cell_at.ensures.row in
    c.in_ok-extend_from_slice.ensures.items
    ∙ ap (λ l. c.args.text.now.items ++ l) (take_all (4352 - at) (drop at dst) short
    ∙ c.put_row-at.ensures.put
    ∙ put
    ∙ ap (λ l. row ++ l) (drop_all 4352 c.args.dst.now (omega arith))
    ∙ append-nil row)
