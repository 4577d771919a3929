use Rattle.std.proofs.Common.{◌≡◌, ◌*◌, take}
use Rattle.vx_bits.specs.BitBuffer.{true_count_of}
use Rattle.vx_words.proofs.filter_bits.count_bits.Given as goal

abbrev pub invariant-loop-i : goal.invariant-loop-i
invariant-loop-i l = l.count ≡ true_count_of (take (64 * l.i) l.bits)
