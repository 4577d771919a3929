use Rattle.std.proofs.Common.{◌≡◌, ◌+◌, ◌-◌, ◌*◌, ◌++◌, ◌∙◌, ◌≤◌, ℕ, length, length-drop, ap, take, drop, arith}
use Rattle.std.proofs.lemmas.List.{take_all}
use Rattle.vx_print.specs.Text.{lines, row_text}
use Rattle.vx_print.proofs.Blocks.{block_more}
use Rattle.vx_print.proofs.cells.push_rows.Goals as goal

pub loop-k-preserved : goal.loop-k-preserved
loop-k-preserved c =
    let s = c.loop-k in
    let f = row_text c.args.column.now.dtype in
    let rows = c.args.column.now.rows in
    let next : 64 * s.k + 64 ≡ 64 * (s.k + 1) = omega arith in
    let at = c.put_rows-at.result in
    let dst = c.put_rows-at.new.dst in
    let end = 64 * s.k + c.min.result in
    let short : length (drop at dst) ≤ 4352 - at = omega (arith, length-drop at dst) in
    c.in_ok-extend_from_slice.ensures.items
    ∙ ap (λ l. s.text.items ++ l) (take_all (4352 - at) (drop at dst) short ∙ c.put_rows-at.ensures.put)
    ∙ ap (λ l. l ++ lines f (take (end - 64 * s.k) (drop (64 * s.k) rows))) s.invariant
    ∙ block_more f c.args.text.now.items rows (64 * s.k) end (omega arith) (omega arith)
    ∙ ap (λ (n : ℕ). c.args.text.now.items ++ lines f (take n rows)) next
