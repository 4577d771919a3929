use Rattle.std.proofs.Common.{◌≡◌, ◌*◌, take}
use Rattle.vx_bits.proofs.bit_buffer.BitBuffer.from_bools.Given as goal

abbrev pub invariant-loop-i : goal.invariant-loop-i
invariant-loop-i l = l.builder ≡ take (64 * l.i) l.bits
