use Rattle.std.proofs.Common.{◌≡◌, ◌+◌, ◌*◌, ◌≤◌, ◌++◌, length, replicate}
use Rattle.std.specs.Vec.{vec_capacity}
use Rattle.vx_bits.proofs.bit_builder.put_alike.Given as goal

abbrev pub invariant-loop-k : goal.invariant-loop-k
invariant-loop-k l = record {
  items : l.bytes.items ≡ l.fn.bytes.items ++ replicate (256 * l.k) l.byte;
  len : length l.bytes.items ≡ length l.fn.bytes.items + 256 * l.k;
  room : length l.fn.bytes.items + l.n ≤ vec_capacity l.bytes;
}
