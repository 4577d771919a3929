-- One cell more.
use Rattle.std.proofs.Common.{List, ◌++◌, [], ◌∷◌, ap₂, sym, ◌∙◌}
use Rattle.std.proofs.lemmas.List.{map_more}
use Rattle.vx_types.specs.DType.{type_of}
use Rattle.vx_types.specs.RowValue.{RowValue, null}
use Rattle.vx_interleave.specs.Places.{placed}
use Rattle.vx_interleave.specs.Rows.{shown_as}
use Rattle.vx_interleave.specs.Sources.{rows_of}
use Rattle.vx_interleave.proofs.CellRows.{cell_pushed, kind_pushed}
use Rattle.vx_interleave.proofs.interleaving.cells_at.Goals as goal

pub loop-place-preserved : goal.loop-place-preserved
loop-place-preserved c =
    let t = type_of c.args.dtype.now in let cells = c.loop-place.cells.items in let more = c.push.new.self.items in let is = c.in_ok-push.ensures.items in
    record {
      of_kind = kind_pushed t.kind cells more c.cell_at.result c.loop-place.invariant.of_kind c.cell_at.ensures.of_kind is;
      rows =
          cell_pushed (shown_as t) cells more c.cell_at.result is
          ∙ ap₂ (λ (l : List RowValue) (x : RowValue). l ++ x ∷ []) c.loop-place.invariant.rows c.cell_at.ensures.row
          ∙ sym (map_more (placed null (rows_of c.args.columns.now)) c.args.order.now c.loop-place.place-index _ c.loop-place-test.true);
    }
