use Rattle.std.proofs.Common.{◌∙◌, refl, arith}
use Rattle.vx_lists.proofs.SummedRows.{next_summed, row_summed}
use Rattle.vx_lists.proofs.filter.sums_by_indices.Goals as goal

pub overflow_add-total-in-loop-index : goal.overflow_add-total-in-loop-index
overflow_add-total-in-loop-index c =
    let v = c.loop-index.invariant.summed in
    let next = next_summed c.args.offsets.now c.args.indices.now c.loop-index.index-index c.loop-index.sums.items c.loop-index.total c.loop-index-test.true c.requires.offsets v in
    omega (arith, next.behind, next.ordered)

pub loop-index-preserved : goal.loop-index-preserved
loop-index-preserved c =
    let v = c.loop-index.invariant in
    record {
      summed = row_summed c.args.offsets.now c.args.indices.now c.loop-index.index-index c.loop-index.sums.items c.loop-index.total _ _ c.loop-index-test.true c.requires.offsets v.summed refl c.push_reserved-in-loop-index.ensures.items;
      count = omega (arith, c.push_reserved-in-loop-index.ensures.len, v.count);
      room = c.push_reserved-in-loop-index.ensures.capacity ∙ v.room;
    }
