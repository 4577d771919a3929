use Rattle.std.proofs.Common.{◌+◌, arith}
use Rattle.vx_filter.proofs.LongMoves.{part_moved}
use Rattle.vx_filter.proofs.Moves.{same_further}
use Rattle.vx_filter.proofs.in_place.copy_parts.Goals as goal

pub part-preserved : goal.part-preserved
part-preserved g c =
    let v = c.part.invariant in
    let part = c.min-part.result in
    let behind = same_further c.part.values c.copy_down.new.values (c.args.from + c.part.moved) (c.args.from + (c.part.moved + part)) (omega arith) c.copy_down.ensures.after in
    let more = part_moved c.args.values.now c.part.values c.copy_down.new.values c.args.from c.args.to c.part.moved part (record { front = v.front; after = v.after }) c.copy_down.ensures.front behind in
    record {
      within = omega (arith, c.min-part.ensures, c.part-test.true);
      len = omega (arith, c.copy_down.auto.values, v.len);
      front = more.front;
      after = more.after;
    }
