use Rattle.std.proofs.Common.{◌∙◌, ap, get_or, arith}
use Rattle.vx_decoder.proofs.ReadPlaces.{places_below, put_read}
use Rattle.vx_packed.specs.Faults.{numbers_in}
use Rattle.vx_packed.specs.Parts.{record_of, records_of}
use Rattle.vx_packed.proofs.RecordLists.{length-records, record_at}
use Rattle.vx_packed.proofs.chunks.put_records_at.Goals as goal

pub read_one-requires-clause-within : goal.read_one-requires-clause-within
read_one-requires-clause-within g c = places_below c.args.indices.now c.requires.ascend c.loop-k.k 0 (omega arith)

pub loop-k-preserved : goal.loop-k-preserved
loop-k-preserved g c =
    let bytes = c.args.bytes.now in
    let places = c.args.indices.now in
    let k = c.loop-k.k in
    let less = places_below places c.requires.ascend k 0 (omega arith) in
    put_read c.loop-k.dst (records_of g.row.W (numbers_in bytes)) places k c.record_from.result c.loop-k.invariant (omega arith) (omega arith) (omega (arith, less, length-records g.row.W bytes))
    (c.record_from.ensures ∙ ap (record_of g.row.W) c.read_one.ensures ∙ record_at g.row.W bytes (get_or places k 0) c.record_from.result less)
