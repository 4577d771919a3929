use Rattle.std.proofs.Common.{◌≡◌, ◌+◌, ◌*◌}
use Rattle.vx_bits.specs.BitBuffer.{bits_of, number_of}
use Rattle.vx_bits.proofs.words.last_word.Given as goal

abbrev pub invariant-loop-k : goal.invariant-loop-k
invariant-loop-k l = l.word ≡ number_of (bits_of l.bytes (8 * l.start + l.shift) l.k)
