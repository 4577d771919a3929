-- One text more.
use Rattle.vx_build.specs.Rows.{bytes_or_none}
use Rattle.vx_build.proofs.TextLists.{next_text}
use Rattle.vx_build.proofs.text.join_texts_or_empty.Goals as goal

pub loop-text-preserved : goal.loop-text-preserved
loop-text-preserved c =
    let old = c.loop-text.joined in let new = c.push.new.self in let put = c.in_ok-push.ensures in
    next_text c.args.values.now (bytes_or_none (λ text. text.now)) c.loop-text.text-index _ old.offsets new.offsets old.text.items new.text.items _ c.loop-text-test.true c.text_or_empty.ensures c.loop-text.invariant put.short put.text put.offsets
