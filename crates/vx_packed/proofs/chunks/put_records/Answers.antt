use Rattle.std.proofs.Common.{arith}
use Rattle.vx_packed.specs.Faults.{numbers_in}
use Rattle.vx_packed.proofs.RecordLists.{records_written}
use Rattle.vx_packed.proofs.Spellings.{length-numbers_in}
use Rattle.vx_packed.proofs.chunks.put_records.Goals as goal

pub returns : goal.returns
returns g c =
    let long = length-numbers_in c.args.bytes.now in
    records_written g.row.W (numbers_in c.args.bytes.now) c.loop-j.dst (omega (arith, long, c.loop-j.auto.dst)) (λ k h. c.loop-j.invariant k (omega (arith, long)))
