use Rattle.std.proofs.Common.{◌+◌, ◌-◌, ◌<◌, ◌++◌, Some, slice_get, length, take, drop, map, sym, ap, ◌∙◌, arith}
use Rattle.std.specs.List.{range_with_len}
use Rattle.std.proofs.lemmas.List.{map-append}
use Rattle.vx_chunked.specs.Positions.{places_of, with_runs}
use Rattle.vx_chunked.proofs.Spans.{PartPlaced, more_runs, next_left, part_is_placed}
use Rattle.vx_chunked.proofs.runs.copy_runs.Goals as goal
use Rattle.vx_chunked.proofs.runs.copy_runs.Goals.{After-min-more, Else-start-end}
use Rattle.vx_lemmas.proofs.Picked.{cut_picked}

-- the part that a turn puts
placed : (g : _) (c : After-min-more g) → PartPlaced (with_runs c.args.front.now.runs.start c.args.front.now.runs.end c.args.front.now.runs.later.now) c.args.front.now.offset c.args.front.now.base c.part.filled c.part.start c.part.end c.min-more.result (drop c.part.used c.args.front.now.runs.later.now)
placed g c =
    let front = c.args.front.now in
    part_is_placed (with_runs front.runs.start front.runs.end front.runs.later.now) front.offset front.base c.part.filled c.part.start c.part.end c.min-more.result front.count (drop c.part.used front.runs.later.now) c.part.invariant.behind front.inside front.enough c.if-start-end.true c.part-test.true (omega (arith, c.min-more.ensures))

-- there is a run behind one that is done with
more : (g : _) (c : Else-start-end g) → c.part.used < length c.args.front.now.runs.later.now
more g c =
    let front = c.args.front.now in
    more_runs (with_runs front.runs.start front.runs.end front.runs.later.now) c.part.filled c.part.start c.part.end c.part.used front.runs.later.now (omega (arith, c.part-test.true, front.enough)) c.part.invariant.behind c.if-start-end.false

pub overflow_add-offset : goal.overflow_add-offset
overflow_add-offset g c = omega (arith, (placed g (goal.at.overflow_add-offset g c).After-min-more).high, c.args.front.now.counted)

pub overflow_sub-offset : goal.overflow_sub-offset
overflow_sub-offset g c = (placed g (goal.at.overflow_sub-offset g c).After-min-more).low

pub bounds-later-used : goal.bounds-later-used
bounds-later-used g c =
    let front = c.args.front.now in
    more_runs (with_runs front.runs.start front.runs.end front.runs.later.now) c.part.filled c.part.start c.part.end c.part.used front.runs.later.now (omega (arith, c.part-test.true, front.enough)) c.part.invariant.behind c.if-start-end.false

pub bounds-later-used-else-start-end : goal.bounds-later-used-else-start-end
bounds-later-used-else-start-end g c =
    let front = c.args.front.now in
    more_runs (with_runs front.runs.start front.runs.end front.runs.later.now) c.part.filled c.part.start c.part.end c.part.used front.runs.later.now (omega (arith, c.part-test.true, front.enough)) c.part.invariant.behind c.if-start-end.false

pub part-smaller : goal.part-smaller
part-smaller g c = omega (arith, more g (goal.at.part-smaller g c).Else-start-end)

pub part-preserved : goal.part-preserved
part-preserved g c =
    let front = c.args.front.now in
    let v = c.part.invariant in
    let here = more g (goal.at.part-preserved g c).Else-start-end in
    record {
      within = omega (arith, here);
      few = v.few;
      behind = next_left (with_runs front.runs.start front.runs.end front.runs.later.now) c.part.filled c.part.start c.part.end c.part.used front.runs.later.now c.if-start-end.false here v.behind;
      put = v.put;
    }

pub copy_part-requires-clause-within : goal.copy_part-requires-clause-within
copy_part-requires-clause-within g c =
    let part = placed g (goal.at.copy_part-requires-clause-within g c).After-min-more in
    omega (arith, part.low, part.high, c.requires.chunk)

pub part-preserved-then-start-end : goal.part-preserved-then-start-end
part-preserved-then-start-end g c =
    let front = c.args.front.now in
    let v = c.part.invariant in
    let part = placed g (goal.at.part-preserved-then-start-end g c).After-min-more in
    let all = with_runs front.runs.start front.runs.end front.runs.later.now in
    let values = c.args.values.now in
    let more = c.min-more.result in
    let from = front.offset + c.part.start - front.base in
    let old = places_of front.offset front.base (take c.part.filled all) in
    record {
      within = v.within;
      few = omega (arith, c.min-more.ensures, v.few);
      behind = part.left;
      put = ap (map Some) c.copy_part.ensures ∙ map-append Some (take c.part.filled c.part.dst) (take more (drop from values))
          ∙ ap (λ l. l ++ map Some (take more (drop from values))) v.put
          ∙ ap (λ l. map (slice_get values) old ++ l) (cut_picked values from more (omega (arith, part.low, part.high, c.requires.chunk)))
          ∙ sym (map-append (slice_get values) old (range_with_len from more))
          ∙ ap (map (slice_get values)) (sym part.placed);
    }
