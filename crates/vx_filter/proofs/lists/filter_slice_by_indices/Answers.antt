use Rattle.std.proofs.lemmas.List.{length-map, length-take-le, take_all}
use Rattle.std.specs.List.{slice_get}
use Rattle.std.proofs.Common.{Option, ◌<◌, length, ◌∙◌, Some, map, take, ap, arith}
use Rattle.std.proofs.lemmas.List.Elements.{All-get_or}
use Rattle.vx_filter.proofs.Picks.{pick_pushed}
use Rattle.vx_filter.proofs.lists.filter_slice_by_indices.Goals as goal

pub loop-index-preserved : goal.loop-index-preserved
loop-index-preserved g c =
    let src = c.args.src.now in
    let indices = c.args.indices.now in
    let i = c.loop-index.index-index in
    let within = All-get_or (λ p. p < length src) indices i 0 c.loop-index-test.true c.requires in
    record {
      items = pick_pushed src c.loop-index.kept.items _ indices i c.index-src-index.result c.loop-index-test.true within c.index-src-index.is c.push_reserved.ensures.items c.loop-index.invariant.items;
      room = c.push_reserved.ensures.capacity ∙ c.loop-index.invariant.room;
    }

pub loop-index-init : goal.loop-index-init
loop-index-init g c = record { items = ap (map Some) c.in_ok-kept.ensures.items; room = c.in_ok-kept.ensures.exact }

pub push_reserved-requires : goal.push_reserved-requires
push_reserved-requires g c =
    let v = c.loop-index.invariant in
    let i = c.loop-index.index-index in
    let src = c.args.src.now in
    let part = take i c.args.indices.now in
    omega (arith, ap length v.items, length-map {B = Option g.row.T.Denot} c.loop-index.kept.items Some, length-map part (slice_get src), length-take-le i c.args.indices.now (omega (arith, c.loop-index-test.true)), v.room, c.loop-index.kept.ok.0, c.loop-index-test.true)

pub returns : goal.returns
returns g c =
    c.loop-index.invariant.items ∙ ap (map (slice_get c.args.src.now)) (take_all c.loop-index.index-index c.args.indices.now c.loop-index-test.false)
