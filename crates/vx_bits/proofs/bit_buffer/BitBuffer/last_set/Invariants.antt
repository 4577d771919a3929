use Rattle.std.proofs.Common.{◌*◌, ◌-◌, length}
use Rattle.vx_bits.proofs.SetBits.{IsClear}
use Rattle.vx_bits.proofs.bit_buffer.BitBuffer.last_set.Given as goal

abbrev pub invariant-loop-passed : goal.invariant-loop-passed
invariant-loop-passed l = IsClear l.self.bits (64 * (l.words - l.passed)) (length l.self.bits)
