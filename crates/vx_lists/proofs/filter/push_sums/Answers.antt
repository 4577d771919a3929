use Rattle.std.proofs.Common.{◌≡◌, ◌+◌, ◌-◌, ◌∙◌, get_or, arith}
use Rattle.vx_lists.proofs.SummedRows.{row_pushed}
use Rattle.vx_lists.proofs.filter.push_sums.Goals as goal

pub loop-i-preserved : goal.loop-i-preserved
loop-i-preserved c =
    let v = c.loop-i.invariant in
    let i = c.loop-i.i in
    let ordered = c.requires.offsets.ascend i 0 (omega arith) in
    let sum = get_or c.args.offsets.now (i + 1) 0 - (get_or c.args.offsets.now c.args.first 0 - c.args.before) in
    let one : sum ≡ c.loop-i.total + (get_or c.args.offsets.now (i + 1) 0 - get_or c.args.offsets.now i 0) = omega (arith, v.place, ordered) in
    let more = row_pushed c.args.offsets.now c.args.first i c.args.before c.args.sums.now.items c.loop-i.sums.items _ c.loop-i.total sum c.loop-i.auto.i v.items v.total one c.push_reserved.ensures.items in
    record {
      items = more.0;
      total = more.1;
      place = omega (arith, v.place, ordered);
      count = omega (arith, c.push_reserved.ensures.len, v.count);
      room = c.push_reserved.ensures.capacity ∙ v.room;
    }
