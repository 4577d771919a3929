-- One text more.
use Rattle.vx_types.specs.Text.{text_kind}
use Rattle.vx_interleave.proofs.TextRows.{next_text}
use Rattle.vx_interleave.proofs.texts.joined_texts.Goals as goal

pub loop-cell-preserved : goal.loop-cell-preserved
loop-cell-preserved c =
    let items = c.args.cells.now in let i = c.loop-cell.cell-index in
    next_text (text_kind c.args.kind) items i c.cell-item.result c.loop-cell.joined.offsets c.push.new.self.offsets c.loop-cell.joined.bytes.items c.push.new.self.bytes.items c.text_at.result.now
    c.loop-cell-test.true c.cell-item.is c.text_at.ensures c.loop-cell.invariant c.in_ok-push.ensures.short c.in_ok-push.ensures.bytes c.in_ok-push.ensures.offsets
