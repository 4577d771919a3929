use Rattle.std.proofs.Common.{◌≡◌, ◌≤◌, ◌*◌}
use Rattle.vx_bits.specs.BitBuffer.{bits_of, true_count_of}
use Rattle.vx_bits.proofs.bit_buffer.count_words.Given as goal

abbrev pub invariant-loop-k : goal.invariant-loop-k
invariant-loop-k l = record {
  counted : l.count ≡ true_count_of (bits_of l.bytes (8 * l.first) (64 * l.k));
  small : l.count ≤ 64 * l.k;
}
