-- One view more is put out, and there is room for it.
use Rattle.std.proofs.Common.{rules, ◌<◌, None, length, ap, ◌∙◌, arith}
use Rattle.vx_offsets.specs.Offsets.{offset_positions, record_numbers}
use Rattle.vx_text.specs.Views.{text_view}
use Rattle.vx_text.proofs.PickedRows.{next_row, one_more}
use Rattle.vx_text.proofs.picked_views.views_at.Goals as goal
use Rattle.vx_lemmas.proofs.Lists.{length_pushed}

pub loop-i-init : goal.loop-i-init
loop-i-init g c =
    record {
      items = c.in_ok-views.ensures.items;
      len = ap length c.in_ok-views.ensures.items;
      room = c.in_ok-views.ensures.exact ∙ c.len.ensures;
    }

pub view_at-requires : goal.view_at-requires
view_at-requires g c =
    let row = next_row c.get.result c.args.picks.now.bound (length c.args.records.now) c.get.ensures.below c.requires.bound in
    (search rules, (c.requires.int, (c.requires.width, (c.requires.offsets, (c.requires.near, row)))))

pub push_reserved-requires : goal.push_reserved-requires
push_reserved-requires g c =
    let inside : c.loop-i.i < length c.args.picks.now.picks = search rules in
    omega (arith, c.loop-i.invariant.len, c.loop-i.invariant.room, inside, c.loop-i.views.ok.0)

pub loop-i-preserved : goal.loop-i-preserved
loop-i-preserved g c =
    let f = text_view (offset_positions (record_numbers c.args.ptype c.args.records.now)) c.args.bytes.now in
    let picks = c.args.picks.now.picks in
    let inside : c.loop-i.i < length picks = search rules in
    let more = c.push_reserved.ensures.items in
    record {
      items = one_more f picks c.loop-i.i None c.loop-i.views.items _ _ inside c.loop-i.invariant.items more (c.view_at.ensures ∙ ap f c.get.ensures.value);
      len = length_pushed c.loop-i.views.items _ _ c.loop-i.i more c.loop-i.invariant.len;
      room = c.push_reserved.ensures.capacity ∙ c.loop-i.invariant.room;
    }
