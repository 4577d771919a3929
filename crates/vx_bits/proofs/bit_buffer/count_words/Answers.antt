use Rattle.std.proofs.Common.{arith}
use Rattle.vx_bits.proofs.ByteWords.{count_more_word}
use Rattle.vx_bits.proofs.bit_buffer.count_words.Goals as goal
use lib.Count.{ones-le}

pub loop-k-preserved : goal.loop-k-preserved
loop-k-preserved c =
    let word = c.eight_bytes.result in
    let more = count_more_word c.args.bytes.now c.args.first c.loop-k.k word (omega arith) c.eight_bytes.ensures.bits in
    record {
      counted = omega (arith, more, c.loop-k.invariant.counted);
      small = omega (arith, ones-le 64 word (omega arith), c.loop-k.invariant.small);
    }
