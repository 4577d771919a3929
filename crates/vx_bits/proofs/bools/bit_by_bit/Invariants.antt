use Rattle.std.proofs.Common.{◌≡◌, take}
use Rattle.vx_bits.specs.BitBuffer.{number_of}
use Rattle.vx_bits.proofs.bools.bit_by_bit.Given as goal

abbrev pub invariant-loop-k : goal.invariant-loop-k
invariant-loop-k l = l.word ≡ number_of (take l.k l.bits)
