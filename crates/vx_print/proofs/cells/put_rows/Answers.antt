use Rattle.std.proofs.Common.{◌≡◌, ◌+◌, ◌-◌, ◌++◌, ◌∷◌, ◌∙◌, ◌<◌, ℕ, ap, take, drop, length, set, refl, arith}
use Rattle.std.proofs.lemmas.List.{drop-set}
use Rattle.vx_types.specs.RowValue.{null}
use Rattle.vx_column.specs.Cell.{row_of}
use Rattle.vx_print.specs.Text.{lines, row_text}
use Rattle.vx_print.proofs.Blocks.{none_put, row_more, all_put}
use Rattle.vx_print.proofs.cells.put_rows.Goals as goal

pub loop-k-init : goal.loop-k-init
loop-k-init c =
    record {
      room = omega arith;
      within = omega arith;
      put = none_put (lines (row_text c.args.column.now.dtype)) c.args.dst.now c.args.column.now.rows 4352 c.args.end refl (omega arith) (omega arith);
    }

pub loop-k-preserved : goal.loop-k-preserved
loop-k-preserved c =
    let s = c.loop-k in
    let f = row_text c.args.column.now.dtype in
    let rows = c.args.column.now.rows in
    let end = c.args.end in
    let x = row_of c.cell_at.result in
    let there : s.at - 1 + 1 ≡ s.at = omega arith in
    let below : s.at - 1 < length s.dst = omega arith in
    let feed : drop (s.at - 1) (set s.dst (s.at - 1) 10) ≡ 10 ∷ lines f (drop (end - s.k) (take end rows)) = drop-set s.dst (s.at - 1) 10 below ∙ ap (λ (n : ℕ). 10 ∷ drop n s.dst) there ∙ ap (λ l. 10 ∷ l) s.invariant.put in
    record {
      room = omega arith;
      within = omega arith;
      put = c.put_row-at.ensures.put ∙ ap (λ t. row_text t x ++ drop (s.at - 1) (set s.dst (s.at - 1) 10)) c.dtype.ensures.value ∙ ap (λ l. f x ++ l) feed ∙ row_more f rows end s.k x null (omega arith) (omega arith) c.cell_at.ensures.row;
    }

pub returns-clause-put : goal.returns-clause-put
returns-clause-put c =
    c.loop-k.invariant.put
    ∙ all_put (lines (row_text c.args.column.now.dtype)) c.args.column.now.rows c.args.start c.args.end c.loop-k.k (omega arith) (omega arith)
