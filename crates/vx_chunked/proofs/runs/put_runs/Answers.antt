use Rattle.std.proofs.Common.{◌+◌, ◌-◌, ◌<◌, ◌++◌, length, drop, sym, ap, ◌∙◌, arith}
use Rattle.std.specs.List.{range_with_len}
use Rattle.vx_chunked.specs.Positions.{with_runs}
use Rattle.vx_chunked.proofs.Spans.{PartPlaced, more_runs, next_left, part_is_placed}
use Rattle.vx_chunked.proofs.runs.put_runs.Goals as goal
use Rattle.vx_chunked.proofs.runs.put_runs.Goals.{After-min-more, Else-start-end}

-- the part that a turn puts
placed : (c : After-min-more) → PartPlaced (with_runs c.args.front.now.runs.start c.args.front.now.runs.end c.args.front.now.runs.later.now) c.args.front.now.offset c.args.front.now.base c.part.filled c.part.start c.part.end c.min-more.result (drop c.part.used c.args.front.now.runs.later.now)
placed c =
    let front = c.args.front.now in
    part_is_placed (with_runs front.runs.start front.runs.end front.runs.later.now) front.offset front.base c.part.filled c.part.start c.part.end c.min-more.result front.count (drop c.part.used front.runs.later.now) c.part.invariant.behind front.inside front.enough c.if-start-end.true c.part-test.true (omega (arith, c.min-more.ensures))

-- there is a run behind one that is done with
more : (c : Else-start-end) → c.part.used < length c.args.front.now.runs.later.now
more c =
    let front = c.args.front.now in
    more_runs (with_runs front.runs.start front.runs.end front.runs.later.now) c.part.filled c.part.start c.part.end c.part.used front.runs.later.now (omega (arith, c.part-test.true, front.enough)) c.part.invariant.behind c.if-start-end.false

pub overflow_add-offset : goal.overflow_add-offset
overflow_add-offset c = omega (arith, (placed (goal.at.overflow_add-offset c).After-min-more).high, c.args.front.now.counted)

pub overflow_sub-offset : goal.overflow_sub-offset
overflow_sub-offset c = (placed (goal.at.overflow_sub-offset c).After-min-more).low

pub bounds-later-used : goal.bounds-later-used
bounds-later-used c =
    let front = c.args.front.now in
    more_runs (with_runs front.runs.start front.runs.end front.runs.later.now) c.part.filled c.part.start c.part.end c.part.used front.runs.later.now (omega (arith, c.part-test.true, front.enough)) c.part.invariant.behind c.if-start-end.false

pub bounds-later-used-else-start-end : goal.bounds-later-used-else-start-end
bounds-later-used-else-start-end c =
    let front = c.args.front.now in
    more_runs (with_runs front.runs.start front.runs.end front.runs.later.now) c.part.filled c.part.start c.part.end c.part.used front.runs.later.now (omega (arith, c.part-test.true, front.enough)) c.part.invariant.behind c.if-start-end.false

pub part-smaller : goal.part-smaller
part-smaller c = omega (arith, more (goal.at.part-smaller c).Else-start-end)

pub part-preserved : goal.part-preserved
part-preserved c =
    let front = c.args.front.now in
    let v = c.part.invariant in
    let here = more (goal.at.part-preserved c).Else-start-end in
    record {
      within = omega (arith, here);
      few = v.few;
      behind = next_left (with_runs front.runs.start front.runs.end front.runs.later.now) c.part.filled c.part.start c.part.end c.part.used front.runs.later.now c.if-start-end.false here v.behind;
      put = v.put;
    }

pub put_range-requires-clause-fits : goal.put_range-requires-clause-fits
put_range-requires-clause-fits c = omega (arith, (placed (goal.at.put_range-requires-clause-fits c).After-min-more).high, c.args.front.now.counted)

pub part-preserved-then-start-end : goal.part-preserved-then-start-end
part-preserved-then-start-end c =
    let front = c.args.front.now in
    let v = c.part.invariant in
    let part = placed (goal.at.part-preserved-then-start-end c).After-min-more in
    record {
      within = v.within;
      few = omega (arith, c.min-more.ensures, v.few);
      behind = part.left;
      put = c.put_range.ensures ∙ ap (λ l. l ++ range_with_len (front.offset + c.part.start - front.base) c.min-more.result) v.put ∙ sym part.placed;
    }
