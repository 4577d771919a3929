-- One end more is put out, and there is room for it.
use Rattle.std.proofs.Common.{◌+◌, ap, arith}
use Rattle.vx_text.specs.OffsetList.{offsets_by}
use Rattle.vx_text.proofs.RunEnds.{first_ends, more_ends}
use Rattle.vx_text.proofs.ends.push_ends.Goals as goal

pub loop-row-init : goal.loop-row-init
loop-row-init g c =
    let run = c.args.run in
    record {
      put = first_ends (offsets_by run.ptype run.records.now) c.args.base run.rows.0 g.R.OffsetRecord.read c.args.ends.now.items c.reserve.new.self.items c.in_ok-reserve.ensures.items;
      room = c.in_ok-reserve.ensures.ok;
    }

pub loop-row-preserved : goal.loop-row-preserved
loop-row-preserved g c =
    let run = c.args.run in let i = c.loop-row.row in
    let n = c.args.base + c.end_behind.result in
    record {
      put = more_ends (offsets_by run.ptype run.records.now) c.args.base run.rows.0 g.R.OffsetRecord.read i n c.args.ends.now.items c.loop-row.ends.items c.push_reserved.new.self.items c.written.result c.loop-row.auto.row c.loop-row.invariant.put c.push_reserved.ensures.items c.written.ensures.back (ap (λ m. c.args.base + m) c.end_behind.ensures.value);
      room = omega (arith, c.push_reserved.ensures.len, c.push_reserved.ensures.capacity, c.loop-row.invariant.room, c.loop-row-test.true);
    }
