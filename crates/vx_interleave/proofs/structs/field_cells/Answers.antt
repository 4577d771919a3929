-- One cell more.
use Rattle.std.proofs.Common.{List, ◌++◌, [], ◌∷◌, ap₂, sym, ◌∙◌}
use Rattle.vx_types.specs.DType.{type_of}
use Rattle.vx_types.specs.RowValue.{RowValue}
use Rattle.vx_interleave.specs.Rows.{shown_as}
use Rattle.vx_interleave.specs.Structs.{field_in}
use Rattle.vx_interleave.proofs.CellRows.{cell_pushed, kind_pushed, row_more}
use Rattle.vx_interleave.proofs.structs.field_cells.Goals as goal

pub loop-cell-preserved : goal.loop-cell-preserved
loop-cell-preserved c =
    let t = type_of c.args.dtype.now in let field = c.loop-cell.field.items in let more = c.push.new.self.items in let is = c.in_ok-push.ensures.items in
    record {
      of_kind = kind_pushed t.kind field more c.field_at.result c.loop-cell.invariant.of_kind c.field_at.ensures.of_kind is;
      rows = cell_pushed (shown_as t) field more c.field_at.result is
          ∙ ap₂ (λ (l : List RowValue) (x : RowValue). l ++ x ∷ []) c.loop-cell.invariant.rows c.field_at.ensures.row
          ∙ sym (row_more (field_in t c.args.k) c.args.cells.now c.loop-cell.cell-index c.cell-item.result c.loop-cell-test.true c.cell-item.is);
    }
