-- One list more.
use Rattle.std.proofs.Common.{◌≡◌, ◌++◌, [], ◌∷◌, List, length, map, take, arith, sym, ap, subst, ◌∙◌}
use Rattle.vx_types.specs.DType.{type_of}
use Rattle.vx_types.specs.RowValue.{RowValue}
use Rattle.vx_column.specs.Cell.{row_of}
use Rattle.vx_text.specs.OffsetList.{OffsetList}
use Rattle.vx_interleave.specs.Lists.{JoinsLists, elements_in}
use Rattle.vx_interleave.specs.Rows.{rows_in}
use Rattle.vx_interleave.proofs.CellRows.{row_more}
use Rattle.vx_interleave.proofs.JoinedRows.{joins_more, joins_none}
use Rattle.vx_interleave.proofs.lists.joined_lists.Goals as goal

pub loop-cell-init : goal.loop-cell-init
loop-cell-init c =
    joins_none (type_of c.args.dtype.now) c.new-starts.result.numbers c.in_ok-elements.elements.items
    (ap (λ (o : OffsetList). o.numbers) c.new-starts.ensures) c.in_ok-elements.ensures.items

pub loop-cell-preserved : goal.loop-cell-preserved
loop-cell-preserved c =
    let t = type_of c.args.dtype.now in let items = c.args.cells.now in let i = c.loop-cell.cell-index in
    let starts = c.loop-cell.starts.numbers in let more = c.push_number.new.numbers.numbers in let elements = c.loop-cell.elements.items in
    let many : c.len.result ≡ length elements = omega arith in
    subst (λ (lists : List (List RowValue)). JoinsLists t lists more c.push_list.new.cells.items)
    (sym (row_more elements_in items i c.cell-item.result c.loop-cell-test.true c.cell-item.is))
    (joins_more t (map elements_in (rows_in (take i items))) (elements_in (row_of c.cell-item.result)) starts more elements c.push_list.new.cells.items c.loop-cell.invariant c.in_ok-push_list.ensures
    (ap (λ (o : OffsetList). o.numbers) c.in_ok-push_number.ensures.numbers ∙ ap (λ n. starts ++ n ∷ []) many))
