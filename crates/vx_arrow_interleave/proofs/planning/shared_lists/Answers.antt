-- One list more.
use Rattle.std.proofs.Common.{◌<◌, ap, length, ◌∙◌, arith}
use Rattle.vx_arrow_interleave.proofs.PlannedRows.{shared_all, shared_more}
use Rattle.vx_arrow_interleave.proofs.planning.shared_lists.Goals as goal

pub loop-j-preserved : goal.loop-j-preserved
loop-j-preserved c =
    let all = c.args.lists.now.items in
    let low : c.loop-j.j < length all = omega (arith, c.loop-j-test.true, c.len-j-end.ensures) in
    shared_more c.loop-j.shared.items all c.push.new.self.items c.loop-j.j c.in_ok-new.field-0 c.index.result.now low c.in_ok-push.ensures.items c.index.ensures
    (ap (λ v. v.items) c.in_ok-new.ensures.ok ∙ c.in-Ok.ensures.items ∙ c.deref.ensures.value) c.loop-j.invariant

pub returns : goal.returns
returns c = c.loop-j.invariant ∙ shared_all c.args.lists.now.items c.loop-j.j (omega (arith, c.loop-j-test.false, c.len-j-end.ensures))
