use Rattle.std.proofs.Common.{arith, ◌∙◌}
use Rattle.vx_mask.proofs.LowestBit.{counted_on, place_fits, position_pushed, positions_done, some_left}
use Rattle.vx_mask.proofs.runs.push_positions.Goals as goal

pub overflow_add-base : goal.overflow_add-base
overflow_add-base c = omega (arith, place_fits _ c.loop-k.left c.loop-k.k _ _ c.loop-k.invariant.count (omega arith) (omega arith) c.requires.counted)

pub loop-k-preserved : goal.loop-k-preserved
loop-k-preserved c =
    let v = c.loop-k.invariant in
    let left = c.loop-k.left in
    let some = some_left left c.loop-k.k _ v.count (omega arith) in
    record {
      items = position_pushed c.args.base c.loop-k.indices.items _ left _ some (omega arith) (omega arith) c.push_reserved.ensures.items ∙ v.items;
      count = counted_on left c.loop-k.k _ v.count (omega arith) (omega arith);
      len = omega (arith, c.push_reserved.ensures.len, v.len);
      room = c.push_reserved.ensures.capacity ∙ v.room;
    }

pub returns-clause-items : goal.returns-clause-items
returns-clause-items c =
    let v = c.loop-k.invariant in
    positions_done c.args.base c.loop-k.indices.items _ c.loop-k.left (omega (arith, v.count)) v.items
