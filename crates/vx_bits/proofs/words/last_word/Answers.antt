use Rattle.std.proofs.Common.{◌+◌, ◌*◌, arith}
use Rattle.vx_bits.proofs.ByteWords.{masked_number, number_with_bit, number_without_bit}
use Rattle.vx_bits.proofs.words.last_word.Goals.{then-bytes-place-eq1, else-bytes-place-eq1}
use Rattle.vx_bits.proofs.words.last_word.Goals as goal

pub returns-then-bytes-start-gt8 : goal.returns-then-bytes-start-gt8
returns-then-bytes-start-gt8 c = masked_number c.args.bytes.now (8 * c.args.start + c.args.shift) c.word_from.result c.args.count c.requires.short c.word_from.ensures

pub loop-k-preserved : goal.loop-k-preserved
loop-k-preserved c =
    let bytes = c.args.bytes.now in
    let place = 8 * c.args.start + c.args.shift in
    let k = c.loop-k.k in
    elim c.if-bytes-place-eq1.branch [
      | then-bytes-place-eq1 w ↦ rw w.word-is (number_with_bit bytes place k c.loop-k.word (omega arith) c.loop-k.invariant w.if-bytes-place-eq1.true)
      | else-bytes-place-eq1 w ↦ rw w.word-is (number_without_bit bytes place k c.loop-k.word c.loop-k.invariant w.if-bytes-place-eq1.false)
    ]
