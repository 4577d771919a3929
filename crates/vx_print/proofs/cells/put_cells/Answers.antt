use Rattle.std.proofs.Common.{◌++◌, ◌∙◌, ap, map, drop, eqb, refl, arith}
use Rattle.vx_types.specs.RowValue.{null}
use Rattle.vx_column.specs.Cell.{row_of}
use Rattle.vx_print.specs.Text.{gap, comma_list, row_text}
use Rattle.vx_print.proofs.Blocks.{none_put, all_put}
use Rattle.vx_print.proofs.Gaps.{element_in_front}
use Rattle.vx_print.proofs.cells.put_cells.Goals as goal

pub loop-k-init : goal.loop-k-init
loop-k-init c =
    record {
      room = omega arith;
      within = omega arith;
      put = none_put (λ l. comma_list (map (row_text c.args.column.now.dtype) l)) c.args.dst.now c.args.column.now.rows 4352 c.args.end refl (omega arith) (omega arith);
    }

pub loop-k-preserved : goal.loop-k-preserved
loop-k-preserved c =
    let s = c.loop-k in
    let f = row_text c.args.column.now.dtype in
    let rows = c.args.column.now.rows in
    let x = row_of c.cell_at.result in
    record {
      room = omega arith;
      within = omega arith;
      put = c.put_row-at.ensures.put
          ∙ ap (λ t. row_text t x ++ drop c.put_gap-at.result c.put_gap-at.new.dst) c.dtype.ensures.value
          ∙ ap (λ l. f x ++ l) (c.put_gap-at.ensures.put ∙ ap (λ l. gap (eqb s.k 0) ++ l) s.invariant.put)
          ∙ element_in_front f rows c.args.end s.k x null (omega arith) (omega arith) c.cell_at.ensures.row;
    }

pub returns-clause-put : goal.returns-clause-put
returns-clause-put c =
    c.loop-k.invariant.put
    ∙ all_put (λ l. comma_list (map (row_text c.args.column.now.dtype) l)) c.args.column.now.rows c.args.start c.args.end c.loop-k.k (omega arith) (omega arith)
