use Rattle.std.proofs.Common.{arith}
use Rattle.vx_file.proofs.HeldRows.{record_pushed, there_at}
use Rattle.vx_file.proofs.columns.taken.Goals as goal

pub number_of-requires : goal.number_of-requires
number_of-requires g c =
    let p = c.args.picks.now in
    there_at c.args.numbers.now c.args.starts.now p.picks p.bound c.loop-i.i c.get.result c.requires.room (omega arith) c.get.ensures.value c.get.ensures.below

pub loop-i-preserved : goal.loop-i-preserved
loop-i-preserved g c =
    let v = c.loop-i.invariant in
    record {
      items = record_pushed g.row.N c.args.numbers.now c.args.starts.now c.args.picks.now.picks c.loop-i.i c.loop-i.records.items c.push_reserved.new.self.items c.record_from.result c.number_of.result c.get.result (omega arith) c.push_reserved.ensures.items c.record_from.ensures c.number_of.ensures c.get.ensures.value v.items;
      len = omega (arith, c.push_reserved.ensures.len, v.len);
      room = omega (arith, c.push_reserved.ensures.capacity, v.room);
    }
