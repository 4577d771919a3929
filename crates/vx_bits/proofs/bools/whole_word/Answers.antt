use Rattle.std.proofs.Common.{◌∙◌, arith}
use Rattle.vx_bits.proofs.PackedBits.{next_eight}
use Rattle.vx_bits.proofs.bools.whole_word.Goals as goal

pub loop-k-preserved : goal.loop-k-preserved
loop-k-preserved c =
    let bits = c.args.bits.now in
    next_eight bits c.loop-k.k c.loop-k.word c.from.result c.loop-k-test.true (omega (arith, c.requires, c.loop-k-test.true)) c.loop-k.invariant (c.from.ensures ∙ c.byte_of.ensures)
