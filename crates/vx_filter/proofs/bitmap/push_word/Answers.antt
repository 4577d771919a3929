use Rattle.std.proofs.Common.{◌-◌, ◌^◌, ◌<◌, ◌∙◌, length, arith}
use Rattle.std.proofs.lemmas.Nat.{and_le_l, ones_le_self}
use Rattle.vx_bits.proofs.WordLists.{one_less}
use Rattle.vx_filter.proofs.WordItems.{item_pushed, items_done, lowest_within}
use Rattle.vx_filter.proofs.bitmap.push_word.Goals as goal

pub bounds-items-left : goal.bounds-items-left
bounds-items-left g c =
    let v = c.loop-k.invariant in
    let left = c.loop-k.left in
    let some : 0 < left = omega (arith, ones_le_self left, v.count) in
    lowest_within left _ some (omega arith) v.within

pub offset_bounds-items-left : goal.offset_bounds-items-left
offset_bounds-items-left g c =
    let v = c.loop-k.invariant in
    let left = c.loop-k.left in
    let some : 0 < left = omega (arith, ones_le_self left, v.count) in
    omega (arith, lowest_within left (length c.args.items.now) some (omega arith) v.within)

pub loop-k-preserved : goal.loop-k-preserved
loop-k-preserved g c =
    let v = c.loop-k.invariant in
    let left = c.loop-k.left in
    let some : 0 < left = omega (arith, ones_le_self left, v.count) in
    let fits : left < 2 ^ 64 = omega arith in
    let less = one_less 64 left some fits in
    record {
      items = item_pushed c.loop-k.kept.items _ c.args.items.now _ left c.index-items-left.result some fits v.within c.index-items-left.is c.push_reserved.ensures.items v.items;
      within = omega (arith, v.within, and_le_l left (left - 1));
      count = omega (arith, less, v.count);
      len = omega (arith, c.push_reserved.ensures.len, v.len);
      room = c.push_reserved.ensures.capacity ∙ v.room;
    }

pub returns-clause-items : goal.returns-clause-items
returns-clause-items g c =
    let v = c.loop-k.invariant in
    items_done c.loop-k.kept.items c.args.items.now _ c.loop-k.left (omega (arith, v.count)) v.items
