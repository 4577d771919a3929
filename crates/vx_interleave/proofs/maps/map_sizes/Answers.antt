-- One size more.
use Rattle.std.proofs.Common.{ℕ, List, ◌++◌, [], ◌∷◌, length, map, take, sym, ap, ap₂, ◌∙◌}
use Rattle.std.proofs.lemmas.List.{map_push}
use Rattle.vx_column.specs.Cell.{row_of}
use Rattle.vx_text.specs.OffsetList.{OffsetList}
use Rattle.vx_interleave.specs.Lists.{elements_in}
use Rattle.vx_interleave.specs.Rows.{rows_in}
use Rattle.vx_interleave.proofs.CellRows.{row_more}
use Rattle.vx_interleave.proofs.maps.map_sizes.Goals as goal

pub loop-cell-preserved : goal.loop-cell-preserved
loop-cell-preserved c =
    let items = c.args.cells.now in let i = c.loop-cell.cell-index in
    ap (λ (o : OffsetList). o.numbers) c.in_ok-push_number.ensures.numbers
    ∙ ap₂ (λ (l : List ℕ) (n : ℕ). l ++ n ∷ []) c.loop-cell.invariant c.list_len.ensures
    ∙ sym (map_push length (map elements_in (rows_in (take i items))) (elements_in (row_of c.cell-item.result)))
    ∙ ap (map length) (sym (row_more elements_in items i c.cell-item.result c.loop-cell-test.true c.cell-item.is))
