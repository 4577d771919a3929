use Rattle.std.proofs.Common.{ap, length, refl, ◌∙◌, arith}
use Rattle.vx_take.specs.Picks.{picks_of}
use Rattle.vx_take.proofs.PickLists.{item_more, all_items}
use Rattle.vx_take.proofs.listed.listed.Goals as goal
use Rattle.vx_lemmas.proofs.Lists.{length_pushed}

pub loop-place-init : goal.loop-place-init
loop-place-init g c =
    record {
      items = c.in_ok-items.ensures.items;
      len = ap length c.in_ok-items.ensures.items;
      room = c.in_ok-items.ensures.exact;
    }

pub push_reserved-requires : goal.push_reserved-requires
push_reserved-requires g c = omega (arith, c.loop-place.invariant.len, c.loop-place.invariant.room, c.loop-place-test.true, c.loop-place.items.ok.0)

pub loop-place-preserved : goal.loop-place-preserved
loop-place-preserved g c =
    let more = c.push_reserved.ensures.items in
    record {
      items = item_more (g.I.ItemOf.item c.args.item.now) c.args.places.now c.loop-place.place-index c.loop-place.items.items _ _ c.loop-place-test.true c.loop-place.invariant.items more c.item_of.ensures;
      len = length_pushed c.loop-place.items.items _ _ c.loop-place.place-index more c.loop-place.invariant.len;
      room = c.push_reserved.ensures.capacity ∙ c.loop-place.invariant.room;
    }

pub returns : goal.returns
returns g c =
    all_items (g.I.ItemOf.item c.args.item.now) c.args.places.now c.loop-place.place-index (picks_of c.args.places.now) _ c.loop-place-test.false refl c.loop-place.invariant.items
