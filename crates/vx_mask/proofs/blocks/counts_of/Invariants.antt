use Rattle.std.proofs.Common.{◌≡◌, ◌*◌, map, take}
use Rattle.std.specs.List.{range_with_len}
use Rattle.vx_bits.specs.BitBuffer.{true_count_of}
use Rattle.vx_mask.proofs.blocks.counts_of.Given as goal

abbrev pub invariant-loop-b : goal.invariant-loop-b
invariant-loop-b l =
    let bits = l.bits.bits in
    record {
      counted : l.count ≡ true_count_of (take (512 * l.b) bits);
      blocks : l.blocks.items ≡ map (λ b. true_count_of (take (512 * b) bits)) (range_with_len 0 l.b);
    }
