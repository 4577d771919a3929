use Rattle.std.proofs.Common.{◌<◌, length, arith}
use Rattle.vx_mask.proofs.RunLists.{runs_start, runs_more, runs_all}
use Rattle.vx_mask.proofs.runs.runs_of.Goals as goal

pub runs-init : goal.runs-init
runs-init c =
    let first = c.next_with-start in
    record {
      found = runs_start c.args.bits.now.bits _ first.result first.ensures.within first.ensures.passed c.new-runs.ensures.items;
      within = first.ensures.within;
      set = first.ensures.found;
    }

pub runs-preserved : goal.runs-preserved
runs-preserved c =
    let bits = c.args.bits.now.bits in
    let end = c.next_with-end.ensures in
    let next = c.next_with-start-in-runs.ensures in
    let here : c.runs.start < length bits = omega (arith, c.runs-test.true, c.len-len.ensures) in
    record {
      found = runs_more bits c.runs.runs.items _ c.runs.start c.next_with-end.result c.next_with-start-in-runs.result here (c.runs.invariant.set here) end.from end.within end.passed end.found next.from next.within next.passed c.runs.invariant.found c.in_ok-push.ensures.items;
      within = next.within;
      set = next.found;
    }

pub returns : goal.returns
returns c = runs_all c.args.bits.now.bits c.runs.runs.items c.runs.start (omega (arith, c.runs-test.false, c.len-len.ensures)) c.runs.invariant.found
