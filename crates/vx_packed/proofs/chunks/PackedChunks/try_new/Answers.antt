use Rattle.std.proofs.Common.{length, ap, arith}
use Rattle.vx_packed.specs.Parts.{parts_of}
use Rattle.vx_packed.proofs.RecordLists.{all_records}
use Rattle.vx_packed.proofs.chunks.PackedChunks.try_new.Goals as goal

pub returns-clause-records : goal.returns-clause-records
returns-clause-records g c =
    let same = ap (λ l. length (parts_of l)) c.as_slice.ensures in
    all_records g.row.W c.args.bytes (omega (arith, same, c.in_ok-count.ensures.count, c.if-count-gt-MOST_CHUNKS.false))
