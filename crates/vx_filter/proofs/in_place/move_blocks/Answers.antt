use Rattle.std.proofs.Common.{◌+◌, arith}
use Rattle.vx_filter.proofs.LongMoves.{part_moved, rest_moved}
use Rattle.vx_filter.proofs.Moves.{same_further}
use Rattle.vx_filter.proofs.in_place.move_blocks.Goals as goal

pub block-preserved : goal.block-preserved
block-preserved g c =
    let v = c.block.invariant in
    let behind = same_further c.block.values c.move_block.new.values (c.args.to + c.block.moved + 1024) (c.args.from + (c.block.moved + 1024)) (omega (arith, c.requires.down)) c.move_block.ensures.after in
    let more = part_moved c.args.values.now c.block.values c.move_block.new.values c.args.from c.args.to c.block.moved 1024 (record { front = v.front; after = v.after }) c.move_block.ensures.front behind in
    record {
      within = omega (arith, v.within, c.block-test.true);
      len = omega (arith, c.move_block.auto.values, v.len);
      front = more.front;
      after = more.after;
    }

pub returns-clause-front : goal.returns-clause-front
returns-clause-front g c =
    let v = c.block.invariant in
    (rest_moved c.args.values.now c.block.values c.move_items.new.values c.args.from c.args.to c.block.moved c.args.count v.within (record { front = v.front; after = v.after }) c.move_items.ensures.front c.move_items.ensures.after).front

pub returns-clause-after : goal.returns-clause-after
returns-clause-after g c =
    let v = c.block.invariant in
    (rest_moved c.args.values.now c.block.values c.move_items.new.values c.args.from c.args.to c.block.moved c.args.count v.within (record { front = v.front; after = v.after }) c.move_items.ensures.front c.move_items.ensures.after).after
