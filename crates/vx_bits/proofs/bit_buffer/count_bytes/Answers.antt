use Rattle.std.proofs.Common.{◌≡◌, ◌+◌, ◌-◌, ◌*◌, get_or, ap, ◌∙◌, arith}
use Rattle.vx_bits.specs.BitBuffer.{bits_of, true_count_of}
use Rattle.vx_bits.proofs.BitLists.{true_count_of_byte, true_count_joined}
use Rattle.vx_bits.proofs.bit_buffer.count_bytes.Goals as goal
use lib.Count.{ones-le}

pub loop-k-preserved : goal.loop-k-preserved
loop-k-preserved c =
    let bytes = c.args.bytes.now in
    let k = c.loop-k.k in
    let next : 8 * (k + 1) - 8 * k ≡ 8 = omega arith in
    let fits = c.type_inv.bytes k in
    let byte = ap (λ n. true_count_of (bits_of bytes (8 * k) n)) next ∙ true_count_of_byte bytes k (omega (arith, fits)) in
    let joined = true_count_joined bytes (8 * c.args.first) (8 * k) (8 * (k + 1)) (omega (arith, c.loop-k.auto.k)) (omega arith) in
    record {
      counted = omega (arith, byte, joined, c.loop-k.invariant.counted);
      small = omega (arith, ones-le 8 (get_or bytes k 0) (omega (arith, fits)), c.loop-k.invariant.small, c.loop-k.auto.k);
    }
