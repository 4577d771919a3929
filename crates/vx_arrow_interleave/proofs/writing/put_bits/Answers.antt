-- One bit more.
use Rattle.vx_arrow_interleave.proofs.BitRuns.{bits_more, no_bits}
use Rattle.vx_arrow_interleave.proofs.writing.put_bits.Goals as goal

pub loop-i-init : goal.loop-i-init
loop-i-init c = no_bits _ _ _

pub loop-i-preserved : goal.loop-i-preserved
loop-i-preserved c = bits_more _ _ _ _ c.args.at c.loop-i.i _ c.put_bit.ensures c.bit_by.ensures c.loop-i.invariant
