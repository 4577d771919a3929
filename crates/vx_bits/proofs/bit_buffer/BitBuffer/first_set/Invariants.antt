use Rattle.std.proofs.Common.{◌*◌}
use Rattle.vx_bits.proofs.SetBits.{IsClear}
use Rattle.vx_bits.proofs.bit_buffer.BitBuffer.first_set.Given as goal

abbrev pub invariant-loop-i : goal.invariant-loop-i
invariant-loop-i l = IsClear l.self.bits 0 (64 * l.i)
