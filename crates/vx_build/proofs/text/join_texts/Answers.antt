-- One text more.
use Rattle.std.proofs.Common.{refl}
use Rattle.vx_build.proofs.TextLists.{next_text}
use Rattle.vx_build.proofs.text.join_texts.Goals as goal

pub loop-text-preserved : goal.loop-text-preserved
loop-text-preserved c =
    let old = c.loop-text.joined in let new = c.push.new.self in let put = c.in_ok-push.ensures in
    next_text c.args.values.now (λ text. text.now) c.loop-text.text-index _ old.offsets new.offsets old.text.items new.text.items _ c.loop-text-test.true refl c.loop-text.invariant put.short put.text put.offsets
