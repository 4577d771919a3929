use Rattle.std.proofs.Common.{arith}
use Rattle.vx_take.proofs.PackedBits.{bits_below, bit_more, bits_all}
use Rattle.vx_take.proofs.bits.packed_word.Goals as goal

pub with_bit-word-requires-clause-below : goal.with_bit-word-requires-clause-below
with_bit-word-requires-clause-below g c =
    bits_below (g.B.BitOf.bit c.args.bit.now) c.args.places.now c.loop-k.k c.loop-k.word (omega arith) c.loop-k.invariant

pub loop-k-preserved : goal.loop-k-preserved
loop-k-preserved g c =
    bit_more (g.B.BitOf.bit c.args.bit.now) c.args.places.now c.loop-k.k c.loop-k.word _ c.bit_of.result (omega arith) c.loop-k.invariant c.bit_of.ensures c.with_bit-word.ensures

pub returns : goal.returns
returns g c =
    bits_all (g.B.BitOf.bit c.args.bit.now) c.args.places.now c.loop-k.k c.loop-k.word (omega arith) c.loop-k.invariant
