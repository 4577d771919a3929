-- All bytes are zero.
use Rattle.std.proofs.Common.{arith}
use Rattle.vx_arrow_interleave.proofs.BitRuns.{clear_bits}
use Rattle.vx_arrow_interleave.proofs.writing.clear.Goals as goal

pub returns-clause-clear : goal.returns-clause-clear
returns-clause-clear c = clear_bits c.loop-k.out (λ i h. c.loop-k.invariant i (omega arith))
